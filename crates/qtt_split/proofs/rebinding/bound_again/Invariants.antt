use Rattle.qtt_unify.specs.View.{binders}
use Rattle.qtt_split.specs.Substitution.{stands_for}
use Rattle.qtt_split.proofs.Rebound.{ReboundSoFar}
use Rattle.qtt_split.proofs.rebinding.bound_again.Given as goal

abbrev pub invariant-loop-mult : goal.invariant-loop-mult
invariant-loop-mult l =
    ReboundSoFar (binders l.context) l.reverted l.mult-index (stands_for l.fn.stands) (stands_for l.stands)
    l.again.items
