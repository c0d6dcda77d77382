use Rattle.qtt_term.specs.Entries.{entries, env}
use Rattle.qtt_split.proofs.Walked.{Walked, filled_patterns}
use Rattle.qtt_split.proofs.planner.Planner.+full.Given as goal

abbrev pub invariant-patterns_full-loop-pattern : goal.invariant-patterns_full-loop-pattern
invariant-patterns_full-loop-pattern g l =
    Walked (env (entries l.self.unifier.globals.now)) l.self.unifier.budget
    (filled_patterns (entries l.self.unifier.globals.now)) l.patterns l.pattern-index
