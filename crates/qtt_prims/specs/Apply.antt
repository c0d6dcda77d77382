-- What each primitive answers on literals.
use Rattle.std.specs.Prelude.{ℕ, cond, ℤ, pos, int_lt, int_rem, List, [], ◌∷◌, ◌++◌}
use Rattle.std.specs.Int.{w64, int_wrapping_add, int_wrapping_sub, int_wrapping_mul, int_wrapping_div}
use Rattle.std.specs.Ordering.{int_eq}
use Rattle.std.specs.Fmt.{signed_decimal}
use Rattle.std.specs.Str.{bytes_eq}
use Rattle.qtt_prims.specs.declared.prim.Primitive.{Primitive}
use Rattle.qtt_prims.specs.declared.prim.Primitive.TheVariants.{AddInt, SubInt, MulInt, DivInt, ModInt, EqInt, LtInt, AppendString, EqString, ShowInt}
use Rattle.qtt_prims.specs.declared.lit.Lit.{Lit}
use Rattle.qtt_prims.specs.declared.lit.Lit.TheVariants.{Int, Text}
use Rattle.qtt_prims.specs.declared.answer.PrimAnswer.{PrimAnswer}
use Rattle.qtt_prims.specs.declared.answer.PrimAnswer.TheVariants.{Value, Truth, DivisionByZero, IllTyped}

-- of two numbers, of one number, and of two texts; ill typed on any other literals
abbrev pub of_numbers : (ℤ → ℤ → PrimAnswer) → List Lit → PrimAnswer
of_numbers f (Int x ∷ Int y ∷ []) = f x y
of_numbers f _ = IllTyped

abbrev pub of_number : (ℤ → PrimAnswer) → List Lit → PrimAnswer
of_number f (Int x ∷ []) = f x
of_number f _ = IllTyped

abbrev pub of_texts : (List ℕ → List ℕ → PrimAnswer) → List Lit → PrimAnswer
of_texts f (Text s ∷ Text t ∷ []) = f s t
of_texts f _ = IllTyped

abbrev pub number : ℤ → PrimAnswer
number x = Value (Int x)

abbrev pub text : List ℕ → PrimAnswer
text s = Value (Text s)

-- the answer of a division by y
abbrev pub unless_zero : ℤ → PrimAnswer → PrimAnswer
unless_zero y answer = cond (int_eq y (pos 0)) DivisionByZero answer

-- numbers wrap at 64 bits; a division truncates toward zero, and its remainder has the sign of x
abbrev pub apply : Primitive → List Lit → PrimAnswer
apply AddInt = of_numbers (λ x y. number (int_wrapping_add w64 x y))
apply SubInt = of_numbers (λ x y. number (int_wrapping_sub w64 x y))
apply MulInt = of_numbers (λ x y. number (int_wrapping_mul w64 x y))
apply DivInt = of_numbers (λ x y. unless_zero y (number (int_wrapping_div w64 x y)))
apply ModInt = of_numbers (λ x y. unless_zero y (number (int_rem x y)))
apply EqInt = of_numbers (λ x y. Truth (int_eq x y))
apply LtInt = of_numbers (λ x y. Truth (int_lt x y))
apply AppendString = of_texts (λ s t. text (s ++ t))
apply EqString = of_texts (λ s t. Truth (bytes_eq s t))
apply ShowInt = of_number (λ x. text (signed_decimal x))

-- the answer is a text
abbrev pub AnswersText : PrimAnswer → Type 0
AnswersText (Value (Text s)) = Unit {0}
AnswersText (Value (Int x)) = ⊥
AnswersText (Truth b) = ⊥
AnswersText DivisionByZero = ⊥
AnswersText IllTyped = ⊥
