use denote.Param.Weighed.{most}
use Rattle.std.proofs.Common.{◌+◌, ◌*◌}
use Rattle.qtt_term.proofs.term.Term.TheLaws.{the_size}
use Rattle.qtt_term.specs.Globals.{env}
use Rattle.qtt_unify.proofs.Continuing.{EquatedSoFar}
use Rattle.qtt_unify.proofs.unifier.Unifier.+equation.Given as goal

-- the depth of the target
abbrev pub decreases-equation : goal.decreases-equation
decreases-equation g l = 2 * the_size l.target.now

abbrev pub decreases-equations : goal.decreases-equations
decreases-equations g l = 2 * most the_size l.targets.now + 1

abbrev pub invariant-equations-loop-place : goal.invariant-equations-loop-place
invariant-equations-loop-place g l =
    EquatedSoFar (env l.self.globals.now) l.self.budget l.depth l.fields l.targets l.indices l.place l.found.items
