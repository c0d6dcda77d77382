use Rattle.std.proofs.Common.{◌≡◌, map, take}
use Rattle.qtt_split.proofs.reverting.variables_in.Given as goal

abbrev pub invariant-loop-binder : goal.invariant-loop-binder
invariant-loop-binder l = l.variables.items ≡ map (λ b. b.1) (take l.binder-index l.bound)
