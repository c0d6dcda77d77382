-- What is left of a row is read.
use Rattle.std.proofs.Common.{◌≡◌, map, drop}
use Rattle.qtt_syntax.specs.View.{con_of}
use Rattle.qtt_implicit.specs.Items.{con_row}
use Rattle.qtt_implicit.proofs.filling.items.read_constructors.Given as goal

abbrev pub invariant-loop-index : goal.invariant-loop-index
invariant-loop-index l = con_row l.row ≡ map con_of (drop l.index l.source)
