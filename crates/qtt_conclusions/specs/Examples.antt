-- Worked examples: normal forms, f x where f : Int, heads that are found by contraction, and comparisons of Int.
use Rattle.std.specs.Prelude.{pos, [], ◌∷◌, Option, Some, None}
use Rattle.qtt_usage.specs.declared.mult.Mult.{Mult}
use Rattle.qtt_usage.specs.Mult.{ω}
use Rattle.qtt_term.specs.Term.{PrimTy, Term, var, ε, Pi, App, IntLit, TypeOf}
use Rattle.qtt_term.specs.Signature.{Env, IntTy, StringTy}
use Rattle.qtt_term.specs.Contraction.{Conv}
use Rattle.qtt_term.specs.Judgement.{Ctx, Part}
use Rattle.qtt_term.specs.Ask.{Ask, Ending}
use Rattle.qtt_term.specs.Forms.{Function, as_function}
use Rattle.qtt_term.specs.Premises.{reading_of, head_as, agree}
use Rattle.qtt_term.specs.Infer.{Premise, Inferred, at, infer}
use Rattle.qtt_term.specs.declared.rule.Rule.TheVariants as rule
use Rattle.qtt_term.specs.Programs.{added, z, s, plus, naturals}
use Rattle.qtt_confluence.specs.Examples.{identity_of}
use Rattle.qtt_conclusions.specs.NormalForms.{WeakHeadNormal, IsRead}
use Rattle.qtt_conclusions.specs.Conclusions.{Concludes}

-- some terms are weak head normal forms, and some of these are read
pub record NormalFormsTell : Type 0 where
  -- x y waits for x; 1 + x waits for x, and 1 + 2 does not wait
  pub variable_applied : (E : Env) → WeakHeadNormal E (App ω (var 0) (var 1))
  pub sum_waits : (E : Env) → WeakHeadNormal E (added (IntLit (pos 1)) (var 0))
  pub sum_is_contracted : (E : Env) → WeakHeadNormal E (added (IntLit (pos 1)) (IntLit (pos 2))) → ⊥
  -- S (Z + Z) is a weak head normal form and is not read, since its field is none; S Z is read
  pub successor_is_normal : WeakHeadNormal naturals (s (plus z z))
  pub successor_is_not_read : IsRead naturals (s (plus z z)) → ⊥
  pub one_is_read : IsRead naturals (s z)

-- f : Int and x : Int, f the newest
abbrev pub two_numbers : Ctx
two_numbers = (ω, IntTy) ∷ (ω, IntTy) ∷ []

-- f x, in the core judgement
abbrev pub number_applied : Env → Ask Premise (Unit {0}) Inferred
number_applied E = infer E Part.run two_numbers (App ω (var 0) (var 1))

-- (\ x -> x) (Int -> Int) is asked for a function type
abbrev pub arrow_asked : Ask (Unit {0}) (Unit {0}) Function
arrow_asked = head_as as_function tt 0 (identity_of (Pi ω IntTy IntTy)) tt

abbrev pub is_function : Term → Term → Ending (Unit {0}) (Unit {0}) Function
is_function A B = Ending.ok (record { mult = ω; domain = A; codomain = B })

abbrev pub number_read : Ask (Unit {0}) (Unit {0}) Term
number_read = reading_of tt 0 (identity_of IntTy)

-- a function type whose domain is Int as it stands
abbrev pub as_from_int : Term → Option (Unit {0})
as_from_int (Pi q (TypeOf PrimTy.int ε) B) = Some tt
as_from_int _ = None

-- a list that tells convertible terms apart
abbrev pub from_int_asked : Ask (Unit {0}) (Unit {0}) (Unit {0})
from_int_asked = head_as as_from_int tt 0 (Pi ω IntTy IntTy) tt

-- whether t and s are convertible, and a false premise where they are not
abbrev pub compared : Term → Term → Ask (Unit {0}) (Unit {0}) (Unit {0})
compared t s = agree tt 0 t s tt

pub record ConclusionsTell (E : Env) : Type 0 where
  -- f x has no type: the premise that f has a function type is false, and no function type is convertible to Int
  pub number_is_not_applied : Concludes E (number_applied E) (Ending.fails (at rule.App 1))
  pub number_has_no_function_type : (q : Mult) (A B : Term) → Conv E IntTy (Pi q A B) → ⊥
  -- (\ x -> x) (Int -> Int) is no weak head normal form, and has the head Int -> Int; what is convertible to this in
  -- its components serves too
  pub redex_is_not_normal : WeakHeadNormal E (identity_of (Pi ω IntTy IntTy)) → ⊥
  pub arrow_has_head : Concludes E arrow_asked (is_function IntTy IntTy)
  pub arrow_has_another : Concludes E arrow_asked (is_function (identity_of IntTy) IntTy)
  -- so a list that tells convertible terms apart can conclude in two ways
  pub from_int : Concludes E from_int_asked (Ending.ok tt)
  pub from_other : Concludes E from_int_asked (Ending.fails tt)
  -- Int is the reading of (\ x -> x) Int
  pub number_is_read : Concludes E number_read (Ending.ok IntTy)
  -- Int is not String, and is (\ x -> x) Int
  pub number_is_no_text : Concludes E (compared IntTy StringTy) (Ending.fails tt)
  pub not_convertible : Conv E IntTy StringTy → ⊥
  pub number_is_number : Concludes E (compared (identity_of IntTy) IntTy) (Ending.ok tt)
