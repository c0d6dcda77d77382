-- What a primitive that is not stuck finds, and what it does then.
use Rattle.std.proofs.Common.{◌≡◌, ℤ, List, [], ◌∷◌, Some, None, drop, refl, sym, ◌∙◌, ap}
use mathlib.Core.Path.{ap₂}
use Rattle.std.specs.List.{slice_get}
use Rattle.std.proofs.lemmas.Option.{none-some, same_Some}
use Rattle.qtt_prims.specs.declared.prim.Primitive.{Primitive}
use Rattle.qtt_prims.specs.declared.prim.Primitive.TheVariants.{AddInt, SubInt, MulInt, DivInt, ModInt, EqInt, LtInt, AppendString, EqString, ShowInt}
use Rattle.qtt_prims.specs.declared.lit.Lit.{Lit}
use Rattle.qtt_prims.specs.declared.lit.Lit.TheVariants as lit
use Rattle.qtt_prims.specs.declared.answer.PrimAnswer.{PrimAnswer}
use Rattle.qtt_prims.specs.Apply.{apply, of_numbers}
use Rattle.qtt_code.specs.Value.{Value, Values, ◌▹◌}
use Rattle.qtt_code.specs.Machine.{State, Did, taken, literals, arity, answers, applies, computes}
use Rattle.qtt_machine.specs.Parts.{as_number, IsOnNumbers}

-- ---- literals
number_is : (v : Value) (n : ℤ) → Some n ≡ as_number v → v ≡ Value.literal (lit.Int n)
number_is (Value.literal (lit.Int m)) n e = ap (λ k. Value.literal (lit.Int k)) (sym (same_Some n m e))
number_is (Value.literal (lit.Text s)) n e = absurd (none-some n (sym e))
number_is (Value.con c vs) n e = absurd (none-some n (sym e))
number_is (Value.closure b vs) n e = absurd (none-some n (sym e))
number_is (Value.action a vs) n e = absurd (none-some n (sym e))
number_is (Value.tape t) n e = absurd (none-some n (sym e))
number_is Value.type n e = absurd (none-some n (sym e))

-- ---- values that were taken
two_computed : (p : Primitive) (xs : List Value) (s : State) (a b : Value) → slice_get xs 1 ≡ Some a →
    slice_get xs 0 ≡ Some b →
    computes p (taken 2 Values.none xs) s ≡ applies p (literals (a ▹ b ▹ Values.none)) (drop 2 xs) s
two_computed p [] s a b e f = absurd (none-some b f)
two_computed p (y ∷ []) s a b e f = absurd (none-some a e)
two_computed p (y ∷ x ∷ left) s a b e f =
    ap₂ (λ x y. applies p (literals (x ▹ y ▹ Values.none)) left s) (same_Some x a e) (same_Some y b f)

-- ---- numbers
on_numbers : (p : Primitive) → IsOnNumbers p → (arity p ≡ 2) × ((g : ℤ → ℤ → PrimAnswer) × (apply p ≡ of_numbers g))
on_numbers AddInt n = (refl, (_, refl))
on_numbers SubInt n = (refl, (_, refl))
on_numbers MulInt n = (refl, (_, refl))
on_numbers DivInt n = (refl, (_, refl))
on_numbers ModInt n = (refl, (_, refl))
on_numbers EqInt n = (refl, (_, refl))
on_numbers LtInt n = (refl, (_, refl))
on_numbers AppendString n = absurd n
on_numbers EqString n = absurd n
on_numbers ShowInt n = absurd n

module _ (p : Primitive) (g : ℤ → ℤ → PrimAnswer) (of : apply p ≡ of_numbers g) (left : List Value) (s : State) where
  ill : (ls : List Lit) → answers (of_numbers g ls) left s ≡ Did.stuck → applies p (Some ls) left s ≡ Did.stuck
  ill ls e = ap (λ f. answers (f ls) left s) of ∙ e

  first-wants : (a b : Value) → None ≡ as_number a → applies p (literals (a ▹ b ▹ Values.none)) left s ≡ Did.stuck
  first-wants (Value.literal (lit.Int m)) b e = absurd (none-some m e)
  first-wants (Value.literal (lit.Text t)) (Value.literal l) e = ill (lit.Text t ∷ l ∷ []) refl
  first-wants (Value.literal (lit.Text t)) (Value.con c vs) e = refl
  first-wants (Value.literal (lit.Text t)) (Value.closure c vs) e = refl
  first-wants (Value.literal (lit.Text t)) (Value.action c vs) e = refl
  first-wants (Value.literal (lit.Text t)) (Value.tape n) e = refl
  first-wants (Value.literal (lit.Text t)) Value.type e = refl
  first-wants (Value.con c vs) b e = refl
  first-wants (Value.closure c vs) b e = refl
  first-wants (Value.action c vs) b e = refl
  first-wants (Value.tape n) b e = refl
  first-wants Value.type b e = refl

  second-wants : (n : ℤ) (b : Value) → None ≡ as_number b →
      applies p (literals (Value.literal (lit.Int n) ▹ b ▹ Values.none)) left s ≡ Did.stuck
  second-wants n (Value.literal (lit.Int m)) e = absurd (none-some m e)
  second-wants n (Value.literal (lit.Text t)) e = ill (lit.Int n ∷ lit.Text t ∷ []) refl
  second-wants n (Value.con c vs) e = refl
  second-wants n (Value.closure c vs) e = refl
  second-wants n (Value.action c vs) e = refl
  second-wants n (Value.tape m) e = refl
  second-wants n Value.type e = refl

module _ (p : Primitive) (on : IsOnNumbers p) (xs : List Value) (s : State) (a b : Value)
    (first : slice_get xs 1 ≡ Some a) (second : slice_get xs 0 ≡ Some b) where
  in-two : computes p (taken (arity p) Values.none xs) s ≡ applies p (literals (a ▹ b ▹ Values.none)) (drop 2 xs) s
  in-two = ap (λ n. computes p (taken n Values.none xs) s) (on_numbers p on).0 ∙ two_computed p xs s a b first second

  first_is_number : ¬ (computes p (taken (arity p) Values.none xs) s ≡ Did.stuck) → None ≡ as_number a → ⊥
  first_is_number h e = h (in-two ∙ first-wants p (on_numbers p on).1.0 (on_numbers p on).1.1 (drop 2 xs) s a b e)

  pub second_is_number : (n : ℤ) → ¬ (computes p (taken (arity p) Values.none xs) s ≡ Did.stuck) →
      Some n ≡ as_number a → None ≡ as_number b → ⊥
  second_is_number n h i e =
      h (in-two ∙ ap (λ v. applies p (literals (v ▹ b ▹ Values.none)) (drop 2 xs) s) (number_is a n i)
      ∙ second-wants p (on_numbers p on).1.0 (on_numbers p on).1.1 (drop 2 xs) s n b e)

pub first_wanted : (p : Primitive) → IsOnNumbers p → (xs : List Value) (s : State) (a : Value) →
    slice_get xs 1 ≡ Some a →
    ¬ (computes p (taken (arity p) Values.none xs) s ≡ Did.stuck) → None ≡ as_number a → ⊥
first_wanted p on [] s a e h n = none-some a e
first_wanted p on (y ∷ []) s a e h n = none-some a e
first_wanted p on (y ∷ x ∷ left) s a e h n = first_is_number p on (y ∷ x ∷ left) s a y e refl h n
