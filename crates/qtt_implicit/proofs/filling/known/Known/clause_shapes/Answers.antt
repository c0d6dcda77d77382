-- The patterns of a clause as a row.
use Rattle.std.proofs.Common.{◌∙◌, ap, sym}
use Rattle.qtt_syntax.specs.Tree.{Shapes}
use Rattle.qtt_implicit.specs.KnownItems.{known_of}
use Rattle.qtt_implicit.specs.Patterns.{Numbered, all_with_slots, new_variables}
use Rattle.qtt_implicit.specs.Shaping.{shape_row}
use Rattle.qtt_implicit.proofs.Equated.{row_again}
use Rattle.qtt_implicit.proofs.Standing.{if_ok}
use Rattle.qtt_implicit.proofs.filling.known.Known.clause_shapes.Goals as goal

pub returns : goal.returns
returns c =
    let K = known_of c.args.self.now in
    let k = c.args.braces in
    let s = c.args.span in
    if_ok c.with_variables.result _ _ (λ r e. e
    ∙ ap (λ (p : Numbered Shapes). new_variables k 0 s p.0) (c.in_ok-inner.ensures
    ∙ ap (λ (ps : Shapes). all_with_slots K ps k) (sym (row_again (shape_row c.args.source.now)))))
    c.with_variables.ensures
