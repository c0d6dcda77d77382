use Rattle.qtt_term.specs.Contexts.{part}
use Rattle.qtt_term.specs.Entries.{env}
use Rattle.qtt_split.specs.Calls.{clause_of}
use Rattle.qtt_module.specs.Sides.{side_or_hole}
use Rattle.qtt_module.specs.GroupCalls.{globals_of, collected}
use Rattle.qtt_module.proofs.Gathering.{SidesSoFar}
use Rattle.qtt_module.proofs.groups.Group.sides_of.Given as goal

abbrev pub invariant-loop-place : goal.invariant-loop-place
invariant-loop-place g l =
    SidesSoFar (env (globals_of l.self)) l.self.elaborator.budget
    (side_or_hole (globals_of l.self) (part l.self.sigma)) l.clause_number (clause_of l.clause) l.leaves l.place
    (collected l.initial.sides) (collected l.sides)
