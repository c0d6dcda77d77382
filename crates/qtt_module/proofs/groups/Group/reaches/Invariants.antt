use Rattle.std.proofs.Common.{map}
use Rattle.qtt_term.specs.Entries.{env}
use Rattle.qtt_module.specs.GroupCalls.{globals_of, defined_of, leaf_at}
use Rattle.qtt_module.proofs.Reaching.{ReachedSoFar}
use Rattle.qtt_module.proofs.groups.Group.reaches.Given as goal

abbrev pub invariant-loop-number : goal.invariant-loop-number
invariant-loop-number g l =
    ReachedSoFar (env (globals_of l.self)) l.self.elaborator.budget (defined_of l.self) (map leaf_at l.leaves)
    l.self.clauses.now l.number
