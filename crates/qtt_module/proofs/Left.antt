-- What is left of terms behind a family's parameters.
use Rattle.std.proofs.Common.{◌≡◌, ℕ, zero, suc, ◌-◌, ◌<◌, true, false, ◌&&◌, cond, List, [], ◌∷◌, length, Option, Some, None, refl, sym, ap, subst, ◌∙◌, arith}
use Rattle.qtt_term.specs.declared.term.Term as code
use Rattle.qtt_term.specs.Term.{Terms, var, skip}
use Rattle.qtt_term.specs.Substitution.{above, shift}
use Rattle.qtt_term.specs.Question.{same, sames}
use Rattle.qtt_term.specs.Forms.{front}
use Rattle.qtt_term.specs.View.{term, terms, side_by_side}

abbrev pub left : ℕ → ℕ → List code.Term → Option Terms
left k m ts =
    cond (sames (front k (side_by_side (terms ts))) (above m k)) (Some (skip k (side_by_side (terms ts)))) None

pub all-left : (k m : ℕ) (ts : List code.Term) → k ≡ 0 → left k m ts ≡ Some (side_by_side (terms ts))
all-left k m ts e = ap (λ k. left k m ts) e

pub none-left : (k m : ℕ) (ts : List code.Term) → (k ≡ 0 → ⊥) → length ts < 1 → left k m ts ≡ None
none-left zero m ts h l = absurd (h refl)
none-left (suc k) m [] h l = refl
none-left (suc k) m (t ∷ ts) h l = let no : ⊥ = omega (arith, l) in absurd no

before : (k : ℕ) → suc k - 1 ≡ k
before k = omega arith

module _ (m : ℕ) (ts us : List code.Term) (t : code.Term) (T : ts ≡ t ∷ us) where
  pub rest-left : (k : ℕ) → (k ≡ 0 → ⊥) → same (term t) (var (shift m (k - 1))) ≡ true →
      left k m ts ≡ left (k - 1) m us
  rest-left zero h s = absurd (h refl)
  rest-left (suc k) h s =
      let U = side_by_side (terms us) in
      let here : same (term t) (var (shift m k)) ≡ true =
      subst (λ i. same (term t) (var (shift m i)) ≡ true) (before k) s in
      ap (left (suc k) m) T
      ∙ ap (λ b. cond (b && sames (front k U) (above m k)) (Some (skip k U)) None) here
      ∙ ap (λ i. left i m us) (sym (before k))

  pub other-left : (k : ℕ) → (k ≡ 0 → ⊥) → same (term t) (var (shift m (k - 1))) ≡ false → left k m ts ≡ None
  other-left zero h s = absurd (h refl)
  other-left (suc k) h s =
      let U = side_by_side (terms us) in
      let here : same (term t) (var (shift m k)) ≡ false =
      subst (λ i. same (term t) (var (shift m i)) ≡ false) (before k) s in
      ap (left (suc k) m) T
      ∙ ap (λ b. cond (b && sames (front k U) (above m k)) (Some (skip k U)) None) here
