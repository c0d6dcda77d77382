use Rattle.std.proofs.Common.{◌≡◌, take}
use Rattle.qtt_term.specs.View.{terms, branches}
use Rattle.qtt_term.proofs.equality.+same_term.Given as goal

abbrev pub invariant-same_all-loop-i : goal.invariant-same_all-loop-i
invariant-same_all-loop-i l = terms (take l.i l.ones) ≡ terms (take l.i l.others)

abbrev pub invariant-same_branches-loop-i : goal.invariant-same_branches-loop-i
invariant-same_branches-loop-i l = branches (take l.i l.ones) ≡ branches (take l.i l.others)
