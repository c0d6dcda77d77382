-- Worked examples of the primitives.
use Rattle.std.specs.Prelude.{◌≡◌, ◌-◌, ◌^◌, ℤ, pos, negsuc, true, false, [], ◌∷◌, List, codes}
use Rattle.qtt_prims.specs.declared.prim.Primitive.TheVariants.{AddInt, SubInt, MulInt, DivInt, ModInt, EqInt, LtInt, AppendString, EqString, ShowInt}
use Rattle.qtt_prims.specs.declared.lit.Lit.{Lit}
use Rattle.qtt_prims.specs.declared.lit.Lit.TheVariants.{Int, Text}
use Rattle.qtt_prims.specs.declared.answer.PrimAnswer.TheVariants.{Truth, DivisionByZero, IllTyped}
use Rattle.qtt_prims.specs.Apply.{apply, number, text}

abbrev pair : ℤ → ℤ → List Lit
pair x y = Int x ∷ Int y ∷ []

-- the least and the greatest number
abbrev least : ℤ
least = negsuc (2 ^ 63 - 1)

abbrev greatest : ℤ
greatest = pos (2 ^ 63 - 1)

-- the examples, computed
pub record PrimitiveRows : Type 0 where
  -- addition wraps, and so do the other two
  pub greatest_and_one : apply AddInt (pair greatest (pos 1)) ≡ number least
  pub least_less_one : apply SubInt (pair least (pos 1)) ≡ number greatest
  pub greatest_doubled : apply MulInt (pair greatest (pos 2)) ≡ number (negsuc 1)
  -- a division truncates toward zero; -2^63 by -1 wraps
  pub seven_by_two : apply DivInt (pair (pos 7) (pos 2)) ≡ number (pos 3)
  pub minus_seven_by_two : apply DivInt (pair (negsuc 6) (pos 2)) ≡ number (negsuc 2)
  pub least_by_minus_one : apply DivInt (pair least (negsuc 0)) ≡ number least
  -- the remainder has the sign of the number that is divided
  pub seven_mod_two : apply ModInt (pair (pos 7) (pos 2)) ≡ number (pos 1)
  pub minus_seven_mod_two : apply ModInt (pair (negsuc 6) (pos 2)) ≡ number (negsuc 0)
  pub seven_mod_minus_two : apply ModInt (pair (pos 7) (negsuc 1)) ≡ number (pos 1)
  pub least_mod_minus_one : apply ModInt (pair least (negsuc 0)) ≡ number (pos 0)
  pub one_by_zero : apply DivInt (pair (pos 1) (pos 0)) ≡ DivisionByZero
  pub one_mod_zero : apply ModInt (pair (pos 1) (pos 0)) ≡ DivisionByZero
  pub three_is_three : apply EqInt (pair (negsuc 2) (negsuc 2)) ≡ Truth true
  pub two_is_not_three : apply EqInt (pair (pos 2) (pos 3)) ≡ Truth false
  pub least_below_greatest : apply LtInt (pair least greatest) ≡ Truth true
  pub joined : apply AppendString (Text (codes "ab") ∷ Text (codes "c") ∷ []) ≡ text (codes "abc")
  pub same_texts : apply EqString (Text (codes "ab") ∷ Text (codes "ab") ∷ []) ≡ Truth true
  pub shown_number : apply ShowInt (Int (pos 120) ∷ []) ≡ text (codes "120")
  pub shown_negative : apply ShowInt (Int (negsuc 41) ∷ []) ≡ text (codes "-42")
  pub shown_zero : apply ShowInt (Int (pos 0) ∷ []) ≡ text (codes "0")
  pub shown_least : apply ShowInt (Int least ∷ []) ≡ text (codes "-9223372036854775808")
  -- wrong kinds, and a wrong number of literals
  pub text_is_no_number : apply AddInt (Int (pos 1) ∷ Text [] ∷ []) ≡ IllTyped
  pub no_literals : apply ShowInt [] ≡ IllTyped
  pub one_too_many : apply EqString (Text [] ∷ Text [] ∷ Text [] ∷ []) ≡ IllTyped
