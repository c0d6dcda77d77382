use Rattle.qtt_term.specs.Entries.{entries, env}
use Rattle.qtt_split.proofs.Walked.{Walked, filled_clauses}
use Rattle.qtt_split.proofs.planner.Planner.clauses_full.Given as goal

abbrev pub invariant-loop-clause : goal.invariant-loop-clause
invariant-loop-clause g l =
    Walked (env (entries l.self.unifier.globals.now)) l.self.unifier.budget
    (filled_clauses (entries l.self.unifier.globals.now)) l.self.clauses.now l.clause-index
