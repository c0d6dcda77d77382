use Rattle.std.proofs.Common.{map, take}
use Rattle.qtt_term.specs.Literals.{AllInRange}
use Rattle.qtt_term.specs.View.{terms, branches, side_by_side}
use Rattle.qtt_term.proofs.literals.+in_range.Given as goal

abbrev pub invariant-all_in_range-loop-source : goal.invariant-all_in_range-loop-source
invariant-all_in_range-loop-source l = AllInRange (side_by_side (terms (take l.source-index l.sources)))

abbrev pub invariant-branches_in_range-loop-source : goal.invariant-branches_in_range-loop-source
invariant-branches_in_range-loop-source l =
    AllInRange (side_by_side (map (λ b. b.1) (branches (take l.source-index l.sources))))
