use Rattle.std.proofs.Common.{◌<◌, ◌++◌, length, get_or, ◌∙◌, ap, subst}
use mathlib.Core.Path.{ap₂}
use Rattle.qtt_term.specs.Globals.{definitions}
use Rattle.qtt_code.specs.Listing.{line, block_text, instr_line}
use Rattle.qtt_code.specs.View.{instr, block}
use Rattle.qtt_code.proofs.Pieces.{piece-next}
use Rattle.qtt_code.proofs.lines.block_lines.Goals as goal

pub loop-instr-preserved : goal.loop-instr-preserved
loop-instr-preserved c =
    c.in_ok-extend_from_slice.ensures.items
    ∙ ap₂ ◌++◌ c.loop-instr.invariant (c.deref.ensures.value ∙ c.in_ok-instr_line.ensures)
    ∙ piece-next instr_line instr
    (line (block_text (definitions c.args.names.now) c.args.number (block c.args.block.now)))
    c.args.block.now.code.items
    c.loop-instr.instr-index c.instr-item.result
    (subst (λ xs. c.loop-instr.instr-index < length xs) c.deref-instr-items.ensures.value c.loop-instr-test.true)
    (c.instr-item.is ∙ ap (λ xs. get_or xs c.loop-instr.instr-index c.instr-item.result)
    c.deref-instr-items.ensures.value)
