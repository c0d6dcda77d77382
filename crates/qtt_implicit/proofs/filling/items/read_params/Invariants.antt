-- What is left of a row is read.
use Rattle.std.proofs.Common.{◌≡◌, map, drop}
use Rattle.qtt_syntax.specs.View.{param_of}
use Rattle.qtt_implicit.specs.Items.{param_row}
use Rattle.qtt_implicit.proofs.filling.items.read_params.Given as goal

abbrev pub invariant-loop-index : goal.invariant-loop-index
invariant-loop-index l = param_row l.row ≡ map param_of (drop l.index l.source)
