use Rattle.std.proofs.Common.{◌≡◌, ◌∙◌, List, map, ap, sym, arith}
use Rattle.std.proofs.lemmas.Grind.{common_steps}
use Rattle.qtt_syntax.specs.Tree.{Shape, shapes}
use Rattle.qtt_syntax.specs.Tree.Shape.{constructor}
use Rattle.qtt_syntax.specs.View.{shape_of}
use Rattle.qtt_syntax.proofs.Rows.{constructor_view}
use Rattle.qtt_cover.proofs.copying.+copied.Goals as goal

pub copied-returns-in_ok-copied_all-in-Constructor : goal.copied-returns-in_ok-copied_all-in-Constructor
copied-returns-in_ok-copied_all-in-Constructor t c =
    let k = c.in-Constructor.mark in
    let s = c.in-Constructor.span in
    let h = c.in_ok-copied_name-in-Constructor.field-0 in
    let row : map shape_of c.in_ok-copied_all-in-Constructor.field-0.items ≡ map shape_of
    c.in-Constructor.arguments.items = grind (arith, common_steps) in
    let name : h ≡ c.in-Constructor.head = grind (arith, common_steps) in
    constructor_view k h c.in_ok-copied_all-in-Constructor.field-0 s ∙
    ap (λ (xs : List Shape). constructor k h (shapes xs) s) row ∙
    ap (λ g. constructor k g (shapes (map shape_of c.in-Constructor.arguments.items)) s) name ∙
    sym (constructor_view k c.in-Constructor.head c.in-Constructor.arguments s) ∙ sym (ap shape_of c.in-Constructor.is)
