-- Terms whose Sorts have a level of 32 bits, and so has the Sort above each.
use Rattle.qtt_term.specs.Term.{Term, Terms, var, node, ε, ◌▸◌}
use Rattle.qtt_term.specs.Accepted.{IsSmall}

abbrev mutual
  pub SmallSorts : Term → Type 0
  SmallSorts (var i) = Unit {0}
  SmallSorts (node F ts) = IsSmall F × AllSmallSorts ts

  pub AllSmallSorts : Terms → Type 0
  AllSmallSorts ε = Unit {0}
  AllSmallSorts (t ▸ ts) = SmallSorts t × AllSmallSorts ts
