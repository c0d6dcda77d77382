-- That no variable is free in a term is a fact: it has one proof.
use Rattle.std.specs.Prelude.{ℕ, ◌+◌, List}
use Rattle.std.specs.Coded.{×_prop, Unit-prop, le_prop}
use Rattle.qtt_term.specs.Term.{Term, Terms, var, node, ε, ◌▸◌, binders, first, rest}
use Rattle.qtt_term.specs.Signature.{Definition}
use Rattle.qtt_term.specs.Programs.{many}
use Rattle.qtt_term.specs.Substitution.{Below, AllBelow, Closed}

mutual
  pub Below-prop : (t : Term) (n : ℕ) → IsProp (Below n t)
  Below-prop (var i) n = le_prop
  Below-prop (node F ts) n = AllBelow-prop ts (binders F) n

  pub AllBelow-prop : (ts : Terms) (ns : List ℕ) (n : ℕ) → IsProp (AllBelow ns n ts)
  AllBelow-prop ε ns n = Unit-prop
  AllBelow-prop (t ▸ ts) ns n = ×_prop (Below-prop t (first ns + n)) (AllBelow-prop ts (rest ns) n)

pub Closed-prop : (t : Term) → IsProp (Closed t)
Closed-prop t = Below-prop t 0

-- an item of a program, by its number, its type and its body
abbrev pub listed_item : ℕ → Term → Term → ℕ × Definition
listed_item n A b = (n, many A b)
