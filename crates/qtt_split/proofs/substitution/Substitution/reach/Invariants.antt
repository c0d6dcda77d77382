use Rattle.std.proofs.Common.{◌≡◌, ◌+◌, ◌-◌, ℕ, length}
use Rattle.qtt_split.specs.Substitution.{stands_for}
use Rattle.qtt_split.proofs.substitution.Substitution.reach.Given as goal

abbrev pub invariant-loop-self : goal.invariant-loop-self
invariant-loop-self l = (i : ℕ) → stands_for l.self i ≡ stands_for l.initial.self i

abbrev pub decreases-loop-self : goal.decreases-loop-self
decreases-loop-self l = l.variable + 1 - length l.self.values.items
