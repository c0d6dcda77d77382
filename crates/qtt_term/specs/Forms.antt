-- Forms that are looked for in a term.
use Rattle.std.specs.Prelude.{ℕ, zero, suc, Option, Some, None}
use Rattle.qtt_usage.specs.declared.mult.Mult.{Mult}
use Rattle.qtt_term.specs.Term.{Term, Terms, ε, ◌▸◌, Sort, Pi}

-- the first k
abbrev pub front : ℕ → Terms → Terms
front zero ts = ε
front (suc k) ε = ε
front (suc k) (t ▸ ts) = t ▸ front k ts

abbrev pub as_sort : Term → Option ℕ
as_sort (Sort l) = Some l
as_sort _ = None

pub record Function : Type 0 where
  pub mult : Mult
  pub domain : Term
  pub codomain : Term

abbrev pub as_function : Term → Option Function
as_function (Pi q A B) = Some (record { mult = q; domain = A; codomain = B })
as_function _ = None
