use Rattle.std.proofs.Common.{◌<◌, ◌++◌, length, get_or, ◌∙◌, ap, subst}
use mathlib.Core.Path.{ap₂}
use Rattle.qtt_term.specs.Globals.{definitions}
use Rattle.qtt_code.specs.View.{block}
use Rattle.qtt_code.proofs.Pieces.{block-next}
use Rattle.qtt_code.proofs.lines.listing.Goals as goal

pub loop-number-preserved : goal.loop-number-preserved
loop-number-preserved c =
    c.in_ok-extend_from_slice.ensures.items
    ∙ ap₂ ◌++◌ c.loop-number.invariant (c.deref.ensures.value ∙ c.in_ok-block_lines.ensures)
    ∙ block-next (definitions c.args.names.now) block c.args.program.now.blocks.items c.loop-number.number
    c.block-item.result
    (subst (λ xs. c.loop-number.number < length xs) c.deref-block-items.ensures.value c.loop-number-test.true)
    (c.block-item.is ∙ ap (λ xs. get_or xs c.loop-number.number c.block-item.result) c.deref-block-items.ensures.value)
