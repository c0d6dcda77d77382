-- What is left of a row is read.
use Rattle.std.proofs.Common.{◌≡◌, map, drop}
use Rattle.qtt_syntax.specs.Tree.{shapes}
use Rattle.qtt_syntax.specs.View.{shape_of}
use Rattle.qtt_implicit.specs.Shaping.{shape_row}
use Rattle.qtt_implicit.proofs.filling.shapes.+read_shapes.Given as goal

abbrev pub invariant-read_shapes-loop-index : goal.invariant-read_shapes-loop-index
invariant-read_shapes-loop-index l = shape_row l.row ≡ shapes (map shape_of (drop l.index l.source))
