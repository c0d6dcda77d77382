use Rattle.qtt_term.specs.Globals.{env}
use Rattle.qtt_unify.specs.View.{scrutinee}
use Rattle.qtt_unify.proofs.Walks.{SolvableSoFar}
use Rattle.qtt_unify.proofs.targets.+solvable.Given as goal

abbrev pub invariant-are_solvable-loop-target : goal.invariant-are_solvable-loop-target
invariant-are_solvable-loop-target l = SolvableSoFar (env l.env) (scrutinee l.scrutinee) l.targets l.target-index
