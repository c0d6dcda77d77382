use Rattle.std.proofs.Common.{◌≡◌, take, map}
use Rattle.qtt_term.specs.Substitution.{ren, lifts_ren, shift}
use Rattle.qtt_term.specs.Shift.{ren_branch}
use Rattle.qtt_term.specs.View.{terms, branches}
use Rattle.qtt_term.proofs.shifting.+shifted.Given as goal

abbrev pub invariant-shifted_all-loop-source : goal.invariant-shifted_all-loop-source
invariant-shifted_all-loop-source l =
    terms l.moved.items ≡ map (ren (lifts_ren l.from (shift l.by))) (terms (take l.source-index l.sources))

abbrev pub invariant-shifted_branches-loop-source : goal.invariant-shifted_branches-loop-source
invariant-shifted_branches-loop-source l =
    branches l.moved.items ≡ map (ren_branch (lifts_ren l.from (shift l.by))) (branches (take l.source-index l.sources))
