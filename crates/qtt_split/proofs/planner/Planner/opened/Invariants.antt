use Rattle.qtt_term.specs.Entries.{entries, env}
use Rattle.qtt_term.specs.View.{term}
use Rattle.qtt_split.proofs.Binding.{OpenedSoFar}
use Rattle.qtt_split.proofs.planner.Planner.opened.Given as goal

abbrev pub invariant-loop-place : goal.invariant-loop-place
invariant-loop-place g l =
    OpenedSoFar (env (entries l.self.unifier.globals.now)) l.self.unifier.budget l.self.first l.count (term l.ty)
    l.place l.binders.items (term l.goal)
