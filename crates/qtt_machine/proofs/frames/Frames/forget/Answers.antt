use Rattle.std.proofs.Common.{reverse, arith}
use Rattle.qtt_machine.proofs.Stacking.{forgotten}
use Rattle.qtt_machine.proofs.frames.Frames.forget.Goals as goal

pub returns : goal.returns
returns c =
    let m = c.args.self.now in
    forgotten m.locals.items m.pushed.items c.truncate.new.self.items m.running
    (reverse m.waiting.items) c.args.count c.len.result
    m.stacked c.requires c.truncate.ensures.items (omega arith)
