-- Examples, in every environment: conversion is neither sameness nor everything, and a term can contract in two
-- ways.
use Rattle.std.specs.Prelude.{◌≡◌, ◌≢◌, [], ◌∷◌, Some, None}
use Rattle.qtt_base.specs.declared.place.GlobalId.{GlobalId}
use Rattle.qtt_usage.specs.Mult.{𝟘, ω}
use Rattle.qtt_term.specs.Term.{Term, var, Sort, Pi, Lam, App, Delete, Def}
use Rattle.qtt_term.specs.Signature.{Env, IntTy, StringTy, Refl}
use Rattle.qtt_term.specs.Contraction.{Step, Reduces, Conv, BodiesClosed}
use Rattle.qtt_term.specs.Question.{compare, Answer}

-- (\ x -> x) a
abbrev pub identity_of : Term → Term
identity_of a = App ω (Lam ω (Sort 0) (var 0)) a

-- (\ x -> x -> x) a, whose contraction has a twice
abbrev pub arrow_of : Term → Term
arrow_of a = App ω (Lam ω (Sort 0) (Pi ω (var 0) (var 1))) a

-- each definition is Int
abbrev pub each_is_int : Env
each_is_int = record {
  family = λ f. None;
  definition = λ d. Some (record { mult = 𝟘; type = Sort 0; body = Some IntTy });
}

-- the first contracts to Int, and is not String
pub record ConversionTells (E : Env) : Type 0 where
  pub convertible : Conv E (identity_of IntTy) IntTy
  pub not_the_same : identity_of IntTy ≢ IntTy
  pub not_convertible : Conv E (identity_of IntTy) StringTy → ⊥

-- a deletion of a proof by reflexivity, and a definition with a body
pub record OtherContractions (E : Env) : Type 0 where
  pub deletion : (A s P b : Term) → Step E (Delete ω A s P b (Refl A s)) b
  pub bodies_closed : BodiesClosed each_is_int
  pub delta : (d : GlobalId) → Step each_is_int (Def d) IntTy

-- (\ x -> x -> x) ((\ x -> x) Int) contracts to two terms, and these to Int -> Int
pub record TwoWays (E : Env) : Type 0 where
  pub outside : Step E (arrow_of (identity_of IntTy)) (Pi ω (identity_of IntTy) (identity_of IntTy))
  pub inside : Step E (arrow_of (identity_of IntTy)) (arrow_of IntTy)
  pub different : Pi ω (identity_of IntTy) (identity_of IntTy) ≢ arrow_of IntTy
  pub outside_meets : Reduces E (Pi ω (identity_of IntTy) (identity_of IntTy)) (Pi ω IntTy IntTy)
  pub inside_meets : Reduces E (arrow_of IntTy) (Pi ω IntTy IntTy)

-- each contraction counts; the place where terms differ is told
pub record ComparisonTells (E : Env) : Type 0 where
  pub equal : compare E 3 (arrow_of (identity_of IntTy)) (Pi ω IntTy IntTy) ≡ Answer.equal
  pub spent : compare E 2 (arrow_of (identity_of IntTy)) (Pi ω IntTy IntTy) ≡ Answer.spent
  pub different : compare E 3 (arrow_of (identity_of IntTy)) (Pi ω IntTy StringTy) ≡ Answer.different (1 ∷ [])
