use Rattle.std.proofs.Common.{◌≡◌, [], map, take}
use Rattle.qtt_term.specs.Reading.{all_occurrences}
use Rattle.qtt_term.specs.View.{terms, branches, side_by_side}
use Rattle.qtt_split.proofs.occurrences.+occurrences.Given as goal

abbrev pub invariant-occurrences_in-loop-source : goal.invariant-occurrences_in-loop-source
invariant-occurrences_in-loop-source l =
    l.count ≡ all_occurrences [] l.variable (side_by_side (terms (take l.source-index l.sources)))

abbrev pub invariant-occurrences_in_branches-loop-source : goal.invariant-occurrences_in_branches-loop-source
invariant-occurrences_in_branches-loop-source l =
    let bs = branches (take l.source-index l.sources) in
    l.count ≡ all_occurrences (map (λ b. b.0) bs) l.variable (side_by_side (map (λ b. b.1) bs))
