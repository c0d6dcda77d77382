use Rattle.std.proofs.Common.{◌≡◌, map, take, false}
use Rattle.qtt_term.specs.View.{terms, branches, side_by_side}
use Rattle.qtt_positive.specs.FirstBad.{occurs_in}
use Rattle.qtt_positive.proofs.occurrence.+occurs.Given as goal

abbrev pub invariant-occurs_in-loop-source : goal.invariant-occurs_in-loop-source
invariant-occurs_in-loop-source l =
    occurs_in l.family (side_by_side (terms (take l.source-index l.sources))) ≡ false

abbrev pub invariant-occurs_in_branches-loop-source : goal.invariant-occurs_in_branches-loop-source
invariant-occurs_in_branches-loop-source l =
    occurs_in l.family (side_by_side (map (λ b. b.1) (branches (take l.source-index l.sources)))) ≡ false
