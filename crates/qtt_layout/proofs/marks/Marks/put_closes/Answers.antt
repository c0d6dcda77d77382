use Rattle.qtt_layout.proofs.Closing.{closes_more, closes_all}
use Rattle.qtt_layout.specs.declared.laid.Laid.TheVariants.{Close}
use Rattle.qtt_layout.proofs.marks.Marks.put_closes.Goals as goal

pub closes-preserved : goal.closes-preserved
closes-preserved c = closes_more c.args.self.now c.closes.self c.put_close.new.self
    (Close c.args.span) c.args.count c.closes.counter c.closes.invariant c.in_ok-put_close.ensures
    c.closes-test.true

pub returns : goal.returns
returns c = closes_all c.args.self.now c.closes.self c.closes.self
    (Close c.args.span) c.args.count c.closes.counter c.closes.invariant c.closes-test.false
