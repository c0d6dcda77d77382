use Rattle.std.proofs.Common.{◌∙◌, sym}
use Rattle.qtt_graph.specs.Near.{goes_on_from}
use Rattle.qtt_graph.proofs.Ways.{find-step, find-here}
use Rattle.qtt_graph.proofs.modules.Modules.step.Goals as goal

pub returns-then-goes_on : goal.returns-then-goes_on
returns-then-goes_on c =
    let row = c.imports-below-items.result.now in (
      row,
      c.imports-below-items.ensures,
      sym (find-here (goes_on_from c.args.near.now.items c.args.target c.args.count) row c.loop-below.below-index
          c.loop-below-test.true c.loop-below.invariant (sym c.goes_on.ensures ∙ c.if-goes_on.true)),
    )

pub loop-below-preserved : goal.loop-below-preserved
loop-below-preserved c =
    find-step (goes_on_from c.args.near.now.items c.args.target c.args.count) c.imports-below-items.result.now
    c.loop-below.below-index c.loop-below-test.true c.loop-below.invariant (sym c.goes_on.ensures ∙ c.if-goes_on.false)
