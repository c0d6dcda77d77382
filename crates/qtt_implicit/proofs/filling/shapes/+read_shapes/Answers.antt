-- A constructor pattern is read with its fields.
use Rattle.std.proofs.Common.{◌≡◌, arith, map}
use Rattle.std.proofs.lemmas.Grind.{common_steps}
use Rattle.qtt_syntax.specs.Tree.{shapes}
use Rattle.qtt_syntax.specs.View.{shape_of}
use Rattle.qtt_implicit.specs.Nodes.{used_name}
use Rattle.qtt_implicit.specs.Shaping.{shape_row}
use Rattle.qtt_implicit.proofs.ShapeParts.{read_constructor}
use Rattle.qtt_implicit.proofs.filling.shapes.+read_shapes.Goals as goal

pub read_shape-returns-in_ok-read_shapes-in-Constructor : goal.read_shape-returns-in_ok-read_shapes-in-Constructor
read_shape-returns-in_ok-read_shapes-in-Constructor t c =
    let row : shape_row c.in_ok-read_shapes-in-Constructor.field-0.now ≡ shapes
    (map shape_of c.in-Constructor.arguments.items) = grind (arith, common_steps) in
    let head : used_name c.used.result ≡ c.in-Constructor.head = grind (arith, common_steps) in
    read_constructor c.args.source.now c.in-Constructor.mark c.in-Constructor.head c.in-Constructor.arguments
    c.in-Constructor.span (used_name c.used.result) (shape_row c.in_ok-read_shapes-in-Constructor.field-0.now)
    c.in-Constructor.is head row
