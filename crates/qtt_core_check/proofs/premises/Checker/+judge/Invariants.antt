use denote.Param.Weighed.{most}
use Rattle.std.proofs.Common.{max, ◌+◌, ◌*◌, ◌≡◌, ◌++◌, map, take}
use Rattle.qtt_term.specs.View.{terms, branches}
use Rattle.qtt_term.specs.Globals.{env}
use Rattle.qtt_term.specs.Contexts.{part}
use Rattle.qtt_term.specs.Infer.{at}
use Rattle.qtt_term.specs.Telescopes.{filled}
use Rattle.qtt_core_check.specs.Cases.{case_of, params_of, motive_of}
use Rattle.qtt_core_check.specs.Seen.{ctx}
use Rattle.qtt_core_check.proofs.ArgumentLists.{SoFar}
use Rattle.qtt_core_check.proofs.BranchLists.{Joining}
use Rattle.qtt_core_check.proofs.premises.Checker.+judge.Given as goal
use Rattle.qtt_term.proofs.term.Term.TheLaws.{the_size}

-- the depth of what is judged; of what has the same depth the row comes before its premises, and these before the
-- terms in them
abbrev pub decreases-judge : goal.decreases-judge
decreases-judge g l = 5 * goal.size-judge g l

abbrev pub decreases-has : goal.decreases-has
decreases-has g l = 5 * goal.size-has g l + 1

abbrev pub decreases-type_of : goal.decreases-type_of
decreases-type_of g l = 5 * goal.size-type_of g l + 1

abbrev pub decreases-arguments : goal.decreases-arguments
decreases-arguments g l = 5 * goal.size-arguments g l + 2

abbrev pub decreases-branch : goal.decreases-branch
decreases-branch g l = 5 * goal.size-branch g l + 1

abbrev pub decreases-branches : goal.decreases-branches
decreases-branches g l = 5 * goal.size-branches g l + 2

abbrev pub decreases-case : goal.decreases-case
decreases-case g l = 5 * goal.size-case g l

abbrev pub decreases-delete : goal.decreases-delete
decreases-delete g l = 5 * goal.size-delete g l

abbrev pub decreases-family_row : goal.decreases-family_row
decreases-family_row g l = 5 * goal.size-family_row g l + 4

abbrev pub decreases-primitive_row : goal.decreases-primitive_row
decreases-primitive_row g l = 5 * goal.size-primitive_row g l + 4

abbrev pub decreases-signature_row : goal.decreases-signature_row
decreases-signature_row g l = 5 * most the_size l.args.now + 3

abbrev pub decreases-io_row : goal.decreases-io_row
decreases-io_row g l = 5 * goal.size-io_row g l + 2

abbrev pub decreases-trap_row : goal.decreases-trap_row
decreases-trap_row g l = 5 * goal.size-trap_row g l + 2

abbrev pub decreases-pi_row : goal.decreases-pi_row
decreases-pi_row g l = 5 * max (the_size l.domain.now) (the_size l.codomain.now) + 2

abbrev pub decreases-lam_row : goal.decreases-lam_row
decreases-lam_row g l = 5 * max (the_size l.domain.now) (the_size l.body.now) + 2

abbrev pub decreases-app_row : goal.decreases-app_row
decreases-app_row g l = 5 * max (the_size l.function.now) (the_size l.argument.now) + 2

abbrev pub decreases-constructor_row : goal.decreases-constructor_row
decreases-constructor_row g l = 5 * max (most the_size l.params.now) (most the_size l.fields.now) + 3

abbrev pub decreases-action_row : goal.decreases-action_row
decreases-action_row g l = 5 * max (most the_size l.types.now) (most the_size l.args.now) + 3

abbrev pub invariant-arguments-loop-place : goal.invariant-arguments-loop-place
invariant-arguments-loop-place g l =
    SoFar (env l.self.globals.now) l.self.budget (part l.sigma) (ctx l.scope)
    (at l.premise.0 l.premise.1) l.binders (filled l.initial.values.items) l.args l.place l.uses
    × (terms l.values.items ≡ terms l.initial.values.items ++ terms (take l.place l.args))

abbrev pub invariant-branches-loop-place : goal.invariant-branches-loop-place
invariant-branches-loop-place g l =
    Joining (env l.self.globals.now) l.self.budget (part l.sigma) (ctx l.scope) (case_of l.matching)
    (params_of l.matching) (motive_of l.matching)
    (case_of l.matching).family.constructors (map (λ b. b.1) (branches l.branches)) l.place l.joined
