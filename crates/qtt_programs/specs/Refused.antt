-- Families that no well-formed environment has.
use Rattle.std.specs.Prelude.{[], ◌∷◌}
use Rattle.qtt_usage.specs.Mult.{ω}
use Rattle.qtt_term.specs.Term.{Sort, Pi}
use Rattle.qtt_term.specs.Signature.{Env, IntTy}
use Rattle.qtt_term.specs.Environment.{WellFormed}
use Rattle.qtt_term.specs.Programs.{program}
use Rattle.qtt_term.specs.PositivityRows.{itself, over}

-- data Big : Type where Mk : Type -> Big
abbrev pub with_type_field : Env
with_type_field = program ((0, over (Sort 0)) ∷ []) []

-- data Bad : Type where Mk : (Bad -> Int) -> Bad
abbrev pub with_negative_field : Env
with_negative_field = program ((0, over (Pi ω itself IntTy)) ∷ []) []

pub record RefusedFamilies : Type 0 where
  -- the field is of level 1, and the family of level 0
  pub too_large : WellFormed with_type_field → ⊥
  pub not_positive : WellFormed with_negative_field → ⊥
