use Rattle.std.proofs.Common.{◌≡◌, drop}
use Rattle.qtt_erase.specs.View.{leans, lean_branches}
use Rattle.qtt_closure.specs.Marks.{all_marked, branches_marked}
use Rattle.qtt_closure.proofs.captures.+mark.Given as goal

abbrev pub invariant-mark_all-loop-source : goal.invariant-mark_all-loop-source
invariant-mark_all-loop-source l =
    all_marked l.first (leans (drop l.source-index l.sources)) l.marks ≡ all_marked l.first
    (leans l.sources) l.initial.marks

abbrev pub invariant-mark_branches-loop-branch : goal.invariant-mark_branches-loop-branch
invariant-mark_branches-loop-branch l =
    branches_marked l.first (lean_branches (drop l.branch-index l.branches)) l.marks ≡ branches_marked l.first
    (lean_branches l.branches) l.initial.marks
