-- What the code's substitutions stand for.
use Rattle.std.specs.Prelude.{ℕ, ◌+◌, List, length}
use Rattle.qtt_term.specs.declared.term.Term as code
use Rattle.qtt_term.specs.Term.{Term, var}
use Rattle.qtt_term.specs.Substitution.{push}
use Rattle.qtt_term.specs.View.{terms, side_by_side}
use Rattle.qtt_split.specs.declared.substitution.Substitution as code_substitution

-- these terms for the newest variables, the last of them for variable 0, and each other raised by so many
abbrev pub values_or_raised : List code.Term → ℕ → ℕ → Term
values_or_raised vs by = push (side_by_side (terms vs)) (λ i. var (length vs + by + i))

abbrev pub stands_for : code_substitution.Substitution → ℕ → Term
stands_for s = values_or_raised s.values.items s.by
