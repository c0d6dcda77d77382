-- What patterns in an arena stand for.
use Rattle.qtt_syntax.specs.Tree.{Shape, Shapes}
use Rattle.qtt_syntax.specs.Tree.Shape.{variable, wildcard, constructor, dot}
use Rattle.qtt_syntax.specs.Tree.Shapes.{no_shape, shape_and}
use Rattle.qtt_implicit.specs.declared.filling.shapes.Shape as shape_code
use Rattle.qtt_implicit.specs.declared.filling.shapes.Shape.TheVariants as shape
use Rattle.qtt_implicit.specs.declared.filling.shapes.Shapes as shapes_code
use Rattle.qtt_implicit.specs.declared.filling.shapes.Shapes.TheVariants as shapes
use Rattle.qtt_implicit.specs.declared.filling.insertion.NumberedShape.{NumberedShape}
use Rattle.qtt_implicit.specs.declared.filling.insertion.NumberedShapes.{NumberedShapes}
use Rattle.qtt_implicit.specs.Patterns.{Numbered}
use Rattle.qtt_implicit.specs.Nodes.{used_name, node_tree}

abbrev mutual
  pub shape_tree : shape_code.Shape → Shape
  shape_tree (shape.Variable k n s) = variable k n.now s
  shape_tree (shape.Wildcard k s) = wildcard k s
  shape_tree (shape.Constructor' k h p ps s) = constructor k (used_name h) (shape_row ps) s
  shape_tree (shape.Dot k e s) = dot k (node_tree e.now) s

  pub shape_row : shapes_code.Shapes → Shapes
  shape_row shapes.End = no_shape
  shape_row (shapes.More' p q more) = shape_and (shape_tree p) (shape_row more)

-- ---- with the number of the variables that are put in
abbrev pub numbered_shape : NumberedShape → Numbered Shape
numbered_shape p = (shape_tree p.shape, p.next)

abbrev pub numbered_shapes : NumberedShapes → Numbered Shapes
numbered_shapes p = (shape_row p.shapes.now, p.next)
