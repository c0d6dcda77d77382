use Rattle.std.proofs.Common.{◌≡◌, take, map}
use Rattle.qtt_term.specs.Substitution.{sub, lifts}
use Rattle.qtt_term.specs.Shift.{values_or, sub_branch}
use Rattle.qtt_term.specs.View.{terms, branches}
use Rattle.qtt_term.proofs.substitution.+substituted.Given as goal

abbrev pub invariant-substituted_all-loop-source : goal.invariant-substituted_all-loop-source
invariant-substituted_all-loop-source l =
    terms l.moved.items ≡ map (sub (lifts l.depth (values_or l.beyond (terms l.values))))
    (terms (take l.source-index l.sources))

abbrev pub invariant-substituted_branches-loop-source : goal.invariant-substituted_branches-loop-source
invariant-substituted_branches-loop-source l =
    branches l.moved.items ≡ map (sub_branch (lifts l.depth (values_or l.beyond (terms l.values))))
    (branches (take l.source-index l.sources))
