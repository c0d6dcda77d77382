use Rattle.qtt_unify.specs.View.{binders}
use Rattle.qtt_split.proofs.Reverted.{RevertedSoFar}
use Rattle.qtt_split.proofs.reverting.reverted.Given as goal

abbrev pub invariant-loop-variable : goal.invariant-loop-variable
invariant-loop-variable l =
    RevertedSoFar (binders l.context) l.stay l.touched l.variables l.variable-index l.found.items l.changed.items
