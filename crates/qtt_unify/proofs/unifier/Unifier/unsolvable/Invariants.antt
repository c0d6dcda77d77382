use Rattle.qtt_term.specs.Globals.{env}
use Rattle.qtt_unify.specs.View.{scrutinee}
use Rattle.qtt_unify.proofs.Walks.{NoneSoFar}
use Rattle.qtt_unify.proofs.unifier.Unifier.unsolvable.Given as goal

abbrev pub invariant-loop-place : goal.invariant-loop-place
invariant-loop-place g l =
    NoneSoFar (env l.self.globals.now) (scrutinee l.scrutinee) l.scrutinee.targets.now l.scrutinee.indices.now l.results
    l.place
