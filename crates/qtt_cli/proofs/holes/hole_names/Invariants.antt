use Rattle.std.proofs.Common.{◌≡◌, ◌++◌, drop}
use Rattle.qtt_cli.specs.Views.{names_in}
use Rattle.qtt_cli.proofs.holes.hole_names.Given as goal

abbrev pub invariant-loop-checked : goal.invariant-loop-checked
invariant-loop-checked l = l.names.items ++ names_in (drop l.checked-index l.order) ≡ names_in l.order
