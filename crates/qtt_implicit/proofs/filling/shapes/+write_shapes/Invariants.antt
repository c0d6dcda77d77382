-- The source grows smaller.
use Rattle.qtt_implicit.specs.declared.filling.shapes.Shape.{size-Shape}
use Rattle.qtt_implicit.specs.declared.filling.shapes.Shapes.{size-Shapes}
use Rattle.qtt_implicit.proofs.filling.shapes.+write_shapes.Given as goal

abbrev pub decreases-written_shape : goal.decreases-written_shape
decreases-written_shape l = size-Shape l.source.now

abbrev pub decreases-with_shapes : goal.decreases-with_shapes
decreases-with_shapes l = size-Shapes l.source.now
