use Rattle.std.proofs.Common.{◌≡◌, map}
use Rattle.qtt_term.specs.View.{terms, branches}
use Rattle.qtt_conv.proofs.components.bodies.Given as goal

abbrev pub invariant-loop-branch : goal.invariant-loop-branch
invariant-loop-branch l = terms l.all.items ≡ map (λ b. b.1) (branches l.yielded)
