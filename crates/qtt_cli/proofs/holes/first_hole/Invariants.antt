use Rattle.std.proofs.Common.{◌≡◌, drop}
use Rattle.qtt_cli.proofs.Found.{first_of}
use Rattle.qtt_cli.proofs.holes.first_hole.Given as goal

-- those before have none
abbrev pub invariant-loop-checked : goal.invariant-loop-checked
invariant-loop-checked l = first_of (drop l.checked-index l.order) ≡ first_of l.order
