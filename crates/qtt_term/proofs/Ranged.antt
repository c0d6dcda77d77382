-- Literals in range among the components that lists make.
use Rattle.std.proofs.Common.{List, [], ◌∷◌, ◌++◌}
use Rattle.std.proofs.lemmas.Grind.{common_steps}
use Rattle.qtt_term.specs.declared.term.Term.{the_lemmas}
use Rattle.qtt_term.specs.Term.{Term, Terms, ε, ◌▸◌, ◌+++◌}
use Rattle.qtt_term.specs.Literals.{AllInRange}
use Rattle.qtt_term.specs.View.{side_by_side}

pub joined_in_range : (ts ss : Terms) → AllInRange ts → AllInRange ss → AllInRange (ts +++ ss)
joined_in_range ε ss h k = k
joined_in_range (t ▸ ts) ss h k = (h.0, joined_in_range ts ss h.1 k)

pub appended_in_range : (ts ss : List Term) → AllInRange (side_by_side ts) → AllInRange (side_by_side ss) →
    AllInRange (side_by_side (ts ++ ss))
appended_in_range [] ss h k = k
appended_in_range (t ∷ ts) ss h k = (h.0, appended_in_range ts ss h.1 k)

pub ruleset ranged = (the_lemmas, common_steps, joined_in_range, appended_in_range)
