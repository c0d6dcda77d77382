use Rattle.std.proofs.Common.{◌≡◌, [], map, take}
use Rattle.qtt_term.specs.Substitution.{reaches}
use Rattle.qtt_term.specs.View.{terms, branches, side_by_side}
use Rattle.qtt_term.proofs.free.+reach.Given as goal

abbrev pub invariant-reach_all-loop-source : goal.invariant-reach_all-loop-source
invariant-reach_all-loop-source l = l.most ≡ reaches [] (side_by_side (terms (take l.source-index l.sources)))

abbrev pub invariant-reach_branches-loop-source : goal.invariant-reach_branches-loop-source
invariant-reach_branches-loop-source l =
    let bs = branches (take l.source-index l.sources) in l.most ≡ reaches (map (λ b. b.0) bs)
    (side_by_side (map (λ b. b.1) bs))
