-- Examples: what is accepted where a part is dead, and at the greatest level of a Sort.
use Rattle.std.specs.Prelude.{◌^◌, ◌-◌, [], ◌∷◌}
use Rattle.qtt_usage.specs.Mult.{𝟙, ◌⊕◌}
use Rattle.qtt_usage.specs.Uses.{Key, Use, zero_use, unit}
use Rattle.qtt_term.specs.Term.{Form, Term, var, node, ε, ◌▸◌, Sort, Pi, Lam, Fam, Trap}
use Rattle.qtt_term.specs.Signature.{Env, plain_constructor, plain_family, IntTy}
use Rattle.qtt_term.specs.Judgement.{Ctx, Part, Typed}
use Rattle.qtt_term.specs.Accepted.{Accepts}
use Rattle.qtt_term.specs.Programs.{item, program}

-- \(1 n : Int) => trap
abbrev pub dead_function : Term
dead_function = Lam 𝟙 IntTy (Trap IntTy)

-- data Choice : Type where Left : Choice; Right : (1 n : Int) -> Choice
abbrev pub choice : Term
choice = Fam (item 0) ε

abbrev pub choices : Env
choices = program ((0, plain_family (plain_constructor [] ∷ plain_constructor ((𝟙, IntTy) ∷ []) ∷ [])) ∷ []) []

-- in partial f : (1 m : Int) -> (1 c : Choice) -> Int; f m Left = m
abbrev pub of_left : Term
of_left = node (Form.case 𝟙 (item 0) 0 1 (0 ∷ 1 ∷ [])) (IntTy ▸ var 1 ▸ Trap IntTy ▸ var 0 ▸ ε)

abbrev pub both_once : Use
both_once x = unit (Key.v 0) x ⊕ unit (Key.v 1) x

-- a function with a dead body need not use its argument. A dead branch need not use its field, and leaves what
-- the other branch uses as it is. The greatest Sort of 32 bits is the type of a Sort and has no type itself,
-- though the core judgement gives it one
pub record DeadPartsUseNothing : Type 0 where
  pub function : (E : Env) → Accepts E Part.run [] dead_function (Pi 𝟙 IntTy IntTy) zero_use
  pub branch : Accepts choices Part.run ((𝟙, choice) ∷ (𝟙, IntTy) ∷ []) of_left IntTy both_once

pub record SortsAreBounded (E : Env) (p : Part) (Γ : Ctx) : Type 0 where
  pub below : Accepts E p Γ (Sort (2 ^ 32 - 2)) (Sort (2 ^ 32 - 1)) zero_use
  pub bound : (A : Term) (u : Use) → Accepts E p Γ (Sort (2 ^ 32 - 1)) A u → ⊥
  pub typed : Typed E p Γ (Sort (2 ^ 32 - 1)) (Sort (2 ^ 32)) zero_use
