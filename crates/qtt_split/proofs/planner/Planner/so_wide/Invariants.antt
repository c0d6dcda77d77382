use Rattle.qtt_term.specs.Entries.{entries, env}
use Rattle.qtt_split.proofs.Walked.{Walked, wide}
use Rattle.qtt_split.proofs.planner.Planner.so_wide.Given as goal

abbrev pub invariant-loop-clause : goal.invariant-loop-clause
invariant-loop-clause g l =
    Walked (env (entries l.self.unifier.globals.now)) l.self.unifier.budget (wide l.width) l.self.clauses.now
    l.clause-index
