use Rattle.std.proofs.Common.{◌≡◌, take, map}
use Rattle.qtt_term.specs.View.{branches}
use Rattle.qtt_envconv.proofs.shape.same_fields.Given as goal

abbrev pub invariant-loop-i : goal.invariant-loop-i
invariant-loop-i l = map (λ b. b.0) (branches (take l.i l.ones)) ≡ map (λ b. b.0) (branches (take l.i l.others))
