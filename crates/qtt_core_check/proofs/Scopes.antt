-- Entries of contexts with several binders.
use Rattle.std.proofs.Common.{◌≡◌, ℕ, zero, suc, ◌+◌, ◌-◌, ◌<◌, ◌≤◌, List, [], ◌∷◌, Bool, true, false, nat_lt, length, get_or, Some, slice_get, refl, ◌∙◌, ap, arith}
use Rattle.std.proofs.lemmas.Bool.{ltb-true, ltb-false}
use Rattle.qtt_usage.specs.declared.mult.Mult.{Mult}
use Rattle.qtt_term.specs.declared.term.Term as code
use Rattle.qtt_term.specs.View.{term}
use Rattle.qtt_term.specs.Term.{Term}
use Rattle.qtt_term.specs.Signature.{Tele}
use Rattle.qtt_term.specs.Judgement.{Ctx, ext}
use Rattle.qtt_term.specs.Telescopes.{tele}
use Rattle.qtt_core_check.proofs.Lists.{length-ext}

ext-outer : (Γ : Ctx) (Θ : Tele) (i : ℕ) → length Θ ≤ i → slice_get (ext Γ Θ) i ≡ slice_get Γ (i - length Θ)
ext-outer Γ [] i h = let e : i ≡ i - 0 = omega arith in ap (slice_get Γ) e
ext-outer Γ (b ∷ Θ) i h =
    let e : i - length Θ ≡ suc (i - length (b ∷ Θ)) =
    omega arith in ext-outer (b ∷ Γ) Θ i (omega arith) ∙ ap (slice_get (b ∷ Γ)) e

inner-step : (Γ : Ctx) (b : Mult × Term) (Θ : Tele) (i : ℕ) (d : Mult × Term) → i < length (b ∷ Θ) →
    (i < length Θ → slice_get (ext (b ∷ Γ) Θ) i ≡ Some (get_or Θ (length Θ - 1 - i) d)) →
    slice_get (ext (b ∷ Γ) Θ) i ≡ Some (get_or (b ∷ Θ) (length (b ∷ Θ) - 1 - i) d)
inner-step Γ b Θ i d h later = by_place (nat_lt i (length Θ)) refl
  where
    by_place : (x : Bool) → nat_lt i (length Θ) ≡ x →
        slice_get (ext (b ∷ Γ) Θ) i ≡ Some (get_or (b ∷ Θ) (length (b ∷ Θ) - 1 - i) d)
    by_place true e =
        let k : i < length Θ = ltb-true i (length Θ) e in
        let n : suc (length Θ - 1 - i) ≡ length (b ∷ Θ) - 1 - i = omega arith in
        later k ∙ ap (λ n. Some (get_or (b ∷ Θ) n d)) n
    by_place false e =
        let k : length Θ ≤ i = ltb-false i (length Θ) e in
        let n : i - length Θ ≡ 0 = omega arith in
        let m : 0 ≡ length (b ∷ Θ) - 1 - i = omega arith in
        ext-outer (b ∷ Γ) Θ i k ∙ ap (slice_get (b ∷ Γ)) n ∙ ap (λ n. Some (get_or (b ∷ Θ) n d)) m

ext-inner : (Γ : Ctx) (Θ : Tele) (i : ℕ) (d : Mult × Term) → i < length Θ →
    slice_get (ext Γ Θ) i ≡ Some (get_or Θ (length Θ - 1 - i) d)
ext-inner Γ [] i d h = absurd (omega arith)
ext-inner Γ (b ∷ Θ) i d h = inner-step Γ b Θ i d h (λ k. ext-inner (b ∷ Γ) Θ i d k)

pub length-tele : (bs : List (Mult × code.Term)) → length (tele bs) ≡ length bs
length-tele [] = refl
length-tele (b ∷ bs) = ap suc (length-tele bs)

at-tele : (bs : List (Mult × code.Term)) (i : ℕ) (d : Mult × code.Term) →
    get_or (tele bs) i (d.0, term d.1) ≡ ((get_or bs i d).0, term (get_or bs i d).1)
at-tele [] i d = refl
at-tele (b ∷ bs) zero d = refl
at-tele (b ∷ bs) (suc i) d = at-tele bs i d

-- of the code's binders
pub several-depth : (Γ : Ctx) (bs : List (Mult × code.Term)) → length (ext Γ (tele bs)) ≡ length Γ + length bs
several-depth Γ bs = length-ext Γ (tele bs) ∙ omega (arith, length-tele bs)

pub several-outer : (Γ : Ctx) (bs : List (Mult × code.Term)) (i : ℕ) → length bs ≤ i →
    slice_get (ext Γ (tele bs)) i ≡ slice_get Γ (i - length bs)
several-outer Γ bs i h = ext-outer Γ (tele bs) i (omega (arith, length-tele bs)) ∙ ap (λ n. slice_get Γ (i - n))
    (length-tele bs)

pub several-inner : (Γ : Ctx) (bs : List (Mult × code.Term)) (i : ℕ) (d : Mult × code.Term) → i < length bs →
    slice_get (ext Γ (tele bs)) i ≡ Some ((get_or bs (length bs - 1 - i) d).0, term (get_or bs (length bs - 1 - i) d).1)
several-inner Γ bs i d h =
    ext-inner Γ (tele bs) i (d.0, term d.1) (omega (arith, length-tele bs)) ∙
    ap (λ n. Some (get_or (tele bs) (n - 1 - i) (d.0, term d.1))) (length-tele bs)
    ∙ ap Some (at-tele bs (length bs - 1 - i) d)
