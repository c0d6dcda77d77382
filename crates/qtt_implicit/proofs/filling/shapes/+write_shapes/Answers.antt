-- A constructor pattern is written with its fields.
use Rattle.std.proofs.Common.{◌≡◌, ◌∙◌, ap, sym, arith, map}
use Rattle.std.proofs.lemmas.Grind.{common_steps}
use Rattle.qtt_syntax.specs.declared.expr.Named.{Named}
use Rattle.qtt_syntax.specs.Tree.Shape.{constructor}
use Rattle.qtt_syntax.specs.View.{shape_of}
use Rattle.qtt_implicit.specs.Nodes.{used_name}
use Rattle.qtt_implicit.specs.Patterns.{shape_list}
use Rattle.qtt_implicit.specs.Shaping.{shape_tree, shape_row}
use Rattle.qtt_implicit.proofs.ShapeParts.{written_constructor}
use Rattle.qtt_implicit.proofs.filling.shapes.+write_shapes.Goals as goal

pub written_shape-returns-in_ok-written_name-in-Constructor :
    goal.written_shape-returns-in_ok-written_name-in-Constructor
written_shape-returns-in_ok-written_name-in-Constructor t c =
    let ps = shape_row c.in-Constructor.fields.now in
    let row : map shape_of c.in_ok-arguments-in-Constructor.arguments.items ≡ shape_list ps =
    grind (arith, common_steps) in
    let head : c.in_ok-written_name-in-Constructor.field-0 ≡ used_name c.in-Constructor.head =
    grind (arith, common_steps) in
    written_constructor c.in-Constructor.mark c.in_ok-written_name-in-Constructor.field-0
    c.in_ok-arguments-in-Constructor.arguments c.in-Constructor.span ps row
    ∙ ap (λ (h : Named). constructor c.in-Constructor.mark h ps c.in-Constructor.span) head
    ∙ sym (ap shape_tree c.in-Constructor.is)
