use Rattle.std.proofs.Common.{map}
use Rattle.qtt_term.specs.Contexts.{part}
use Rattle.qtt_term.specs.Entries.{env}
use Rattle.qtt_module.specs.Sides.{side_or_hole}
use Rattle.qtt_module.specs.GroupCalls.{globals_of, leaf_at, collected, none_collected}
use Rattle.qtt_module.proofs.Gathering.{ClausesSoFar}
use Rattle.qtt_module.proofs.groups.Group.all_sides.Given as goal

abbrev pub invariant-loop-place : goal.invariant-loop-place
invariant-loop-place g l =
    ClausesSoFar (env (globals_of l.self)) l.self.elaborator.budget
    (side_or_hole (globals_of l.self) (part l.self.sigma)) (map leaf_at l.leaves) l.self.clauses.now l.place
    none_collected (collected l.sides)
