use Rattle.std.proofs.Common.{◌∙◌, ap}
use Rattle.qtt_closure.specs.View.{function}
use Rattle.qtt_code.specs.View as code
use Rattle.qtt_lower.specs.Lowering.{block}
use Rattle.qtt_lower.specs.Programs.{entry}
use Rattle.qtt_lower.specs.View.{bases}
use Rattle.qtt_lower.proofs.Sizes.{one_more_made}
use Rattle.qtt_lower.proofs.definition.lower_one.Goals as goal

pub loop-function-preserved : goal.loop-function-preserved
loop-function-preserved c =
    one_more_made code.block function (block (entry (bases c.args.bases.now)) c.args.id)
    c.loop-function.blocks.items c.push.new.self.items c.in_ok-block.field-0
    c.deref-function-items.result.now c.loop-function.function-index c.function-item.result
    c.loop-function-test.true c.in_ok-push.ensures.items
    (c.in_ok-block.ensures ∙ ap (λ F. block (entry (bases c.args.bases.now)) c.args.id (function F))
    c.function-item.is) c.loop-function.invariant
