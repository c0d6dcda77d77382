-- Worked examples of strict positivity.
use Rattle.std.specs.Prelude.{[], ◌∷◌}
use Rattle.qtt_usage.specs.Mult.{ω}
use Rattle.qtt_term.specs.Term.{Term, ε, ◌▸◌, Pi, Fam}
use Rattle.qtt_term.specs.Signature.{Family, plain_constructor, plain_family, IntTy}
use Rattle.qtt_term.specs.Positivity.{Positive}
use Rattle.qtt_term.specs.Programs.{item, nat_family}
use Rattle.qtt_term.specs.Vectors.{vect_family}

-- data D : Type where Mk : A -> D, as item 0
abbrev pub itself : Term
itself = Fam (item 0) ε

abbrev pub over : Term → Family
over A = plain_family (plain_constructor ((ω, A) ∷ []) ∷ [])

-- data List (a : Type) : Type, as item 1
abbrev pub list_of : Term → Term
list_of A = Fam (item 1) (A ▸ ε)

pub record PositivityRows : Type 0 where
  -- data Nat : Type where Z : Nat; S : Nat -> Nat
  pub numbers : Positive (item 0) nat_family
  -- each vector has one that is shorter
  pub vectors : Positive (item 4) vect_family
  -- Mk : (Int -> D) -> D
  pub behind_an_arrow : Positive (item 0) (over (Pi ω IntTy itself))
  -- Mk : (D -> Int) -> D
  pub in_a_domain : Positive (item 0) (over (Pi ω itself IntTy)) → ⊥
  -- Mk : ((D -> Int) -> Int) -> D: left of two arrows it stands in a domain too
  pub in_a_domain_of_a_domain : Positive (item 0) (over (Pi ω (Pi ω itself IntTy) IntTy)) → ⊥
  -- Mk : List D -> D
  pub in_another_family : Positive (item 0) (over (list_of itself)) → ⊥
  -- Mk : List Int -> D
  pub without_it : Positive (item 0) (over (list_of IntTy))
