-- Lists of uses under binders, and their lengths.
use Rattle.std.proofs.Common.{◌≡◌, ℕ, zero, suc, ◌+◌, true, T, List, [], ◌∷◌, length, drop, refl, sym, ◌∙◌, ap, subst, arith}
use Rattle.std.proofs.lemmas.Bool.{and_parts}
use Rattle.std.proofs.lemmas.List.{length-drop, length-map}
use Rattle.std.proofs.lemmas.Slice.Zip.{length-zip}
use Rattle.std.specs.List.{zip}
use Rattle.qtt_usage.specs.declared.mult.Mult.{Mult}
use Rattle.qtt_usage.specs.Mult.{𝟘, ◌⊕◌, ◌⊙◌, join, fits, ◌≼◌}
use Rattle.qtt_usage.specs.Uses.{Key, Use, outs}
use Rattle.qtt_usage.specs.Usage.{usage_sum, usage_join, usage_scale, no_usage, usage_at, use_of}
use Rattle.qtt_usage.proofs.Mults.{⊙-zero, ≼-refl}
use Rattle.qtt_usage.proofs.UsageLemmas.{sum_at, join_at, scale_at}
use Rattle.qtt_term.specs.Signature.{Tele}
use Rattle.qtt_term.specs.Judgement.{Ctx, ext, BindersFit}
use Rattle.qtt_term.specs.Infer.{binders_fit, mults_onto}

-- ---- lengths
pub length-sum : (us ws : List Mult) (n : ℕ) → length us ≡ n → length ws ≡ n → length (usage_sum us ws) ≡ n
length-sum us ws n d e =
    length-map (zip us ws) (λ p. p.0 ⊕ p.1) ∙ length-zip us ws ∙ omega arith

pub length-join : (us ws : List Mult) (n : ℕ) → length us ≡ n → length ws ≡ n → length (usage_join us ws) ≡ n
length-join us ws n d e =
    length-map (zip us ws) (λ p. join p.0 p.1) ∙ length-zip us ws ∙ omega arith

pub length-scaled : (q : Mult) (us : List Mult) → length (usage_scale q us) ≡ length us
length-scaled q us = length-map us (λ u. q ⊙ u)

pub length-none : (n : ℕ) → length (no_usage n) ≡ n
length-none zero = refl
length-none (suc n) = ap suc (length-none n)

pub length-ext : (Γ : Ctx) (Θ : Tele) → length (ext Γ Θ) ≡ length Θ + length Γ
length-ext Γ [] = omega arith
length-ext Γ (b ∷ Θ) = length-ext (b ∷ Γ) Θ ∙ omega arith

pub length-open : (Γ : Ctx) (Θ : Tele) (us : List Mult) → length us ≡ length (ext Γ Θ) →
    length (drop (length Θ) us) ≡ length Γ
length-open Γ Θ us e = length-drop (length Θ) us ∙ omega (arith, length-ext Γ Θ)

-- ---- what uses nothing
abbrev pub IsNothing : List Mult → Type 0
IsNothing us = (x : Key) → use_of us x ≡ 𝟘

pub nothing-sum : (us ws : List Mult) → length us ≡ length ws → IsNothing us → IsNothing ws →
    IsNothing (usage_sum us ws)
nothing-sum us ws e h k x = sum_at us ws x e ∙ rw (h x, k x) refl

pub nothing-join : (us ws : List Mult) → length us ≡ length ws → IsNothing us → IsNothing ws →
    IsNothing (usage_join us ws)
nothing-join us ws e h k x = join_at us ws x e ∙ rw (h x, k x) refl

pub nothing-scaled : (q : Mult) (us : List Mult) → IsNothing us → IsNothing (usage_scale q us)
nothing-scaled q us h x = scale_at q us x ∙ rw (h x) (⊙-zero q)

-- ---- under binders
drop-at : (n i : ℕ) (us : List Mult) → usage_at (drop n us) i ≡ usage_at us (n + i)
drop-at zero i us = let e : i ≡ 0 + i = omega arith in ap (usage_at us) e
drop-at (suc n) i [] = refl
drop-at (suc n) i (u ∷ us) = let e : suc (n + i) ≡ suc n + i = omega arith in drop-at n i us ∙ ap (usage_at (u ∷ us)) e

outs-v : (n i : ℕ) (u : Use) → outs n u (Key.v i) ≡ u (Key.v (n + i))
outs-v zero i u = let e : i ≡ 0 + i = omega arith in ap (λ j. u (Key.v j)) e
outs-v (suc n) i u = let e : n + suc i ≡ suc n + i = omega arith in outs-v n (suc i) u ∙ ap (λ j. u (Key.v j)) e

outs-h : (n i : ℕ) (u : Use) → outs n u (Key.h i) ≡ u (Key.h i)
outs-h zero i u = refl
outs-h (suc n) i u = outs-h n i u

pub opened_at : (Θ : Tele) (us : List Mult) (x : Key) → use_of (drop (length Θ) us) x ≡ outs (length Θ) (use_of us) x
opened_at Θ us (Key.v i) = drop-at (length Θ) i us ∙ sym (outs-v (length Θ) i (use_of us))
opened_at Θ us (Key.h i) = sym (outs-h (length Θ) i (use_of us))

-- keys at which uses are counted: variables, and where no Tape stands tapes
abbrev pub Counts : Type 0 → Key → Type 0
Counts N (Key.v i) = Unit {0}
Counts N (Key.h i) = N

pub counts-in : {N M : Type 0} → (N → M) → (x : Key) → Counts N x → Counts M x
counts-in f (Key.v i) c = tt
counts-in f (Key.h i) c = f c

-- two uses agree without binders where they agree with them
pub outs-as : {N : Type 0} (n : ℕ) (u w : Use) (x : Key) → ((y : Key) → Counts N y → u y ≡ w y) → Counts N x →
    outs n u x ≡ outs n w x
outs-as n u w (Key.v i) h c = outs-v n i u ∙ h (Key.v (n + i)) tt ∙ sym (outs-v n i w)
outs-as n u w (Key.h i) h c = outs-h n i u ∙ h (Key.h i) c ∙ sym (outs-h n i w)

pub nothing-open : (Θ : Tele) (us : List Mult) → IsNothing us → IsNothing (drop (length Θ) us)
nothing-open Θ us h (Key.v i) = drop-at (length Θ) i us ∙ h (Key.v (length Θ + i))
nothing-open Θ us h (Key.h i) = refl

-- ---- fits
is-below : (u q : Mult) → fits u q ≡ true → u ≼ q
is-below u q e = subst T (sym e) tt

drop-more : {A : Type 0} (n : ℕ) (us : List A) → drop 1 (drop n us) ≡ drop (suc n) us
drop-more zero us = refl
drop-more (suc n) [] = refl
drop-more (suc n) (u ∷ us) = drop-more n us

at_newest : (Θ : Tele) (us : List Mult) → usage_at (drop (length Θ) us) 0 ≡ outs (length Θ) (use_of us) (Key.v 0)
at_newest Θ us = opened_at Θ us (Key.v 0)

-- only the uses of variables matter
fit-as : (Θ : Tele) (w u : Use) → ((i : ℕ) → u (Key.v i) ≡ w (Key.v i)) → BindersFit Θ w → BindersFit Θ u
fit-as [] w u h f = tt
fit-as (b ∷ Θ) w u h f = (
  subst (λ m. m ≼ b.0) (outs-v (length Θ) 0 w ∙ sym (h (length Θ + 0)) ∙ sym (outs-v (length Θ) 0 u)) f.0,
  fit-as Θ
      w u h f.1,
)

fit-onto : (qs : List Mult) (Θ : Tele) (us : List Mult) → binders_fit (mults_onto qs Θ) us ≡ true →
    BindersFit Θ (use_of us) × (binders_fit qs (drop (length Θ) us) ≡ true)
fit-onto qs [] us e = (tt, e)
fit-onto qs (b ∷ Θ) us e =
    let (f, d) = fit-onto (b.0 ∷ qs) Θ us e in
    let (g, k) = and_parts (fits (usage_at (drop (length Θ) us) 0) b.0) (binders_fit qs (drop 1 (drop (length Θ) us)))
    d in
    let a : outs (length Θ) (use_of us) (Key.v 0) ≼ b.0 = subst (λ m. m ≼ b.0) (at_newest Θ us) (is-below _ _ g) in
    ((a, f), subst (λ ws. binders_fit qs ws ≡ true) (drop-more (length Θ) us) k)

pub binders-fit : (Θ : Tele) (us : List Mult) (u : Use) → binders_fit (mults_onto [] Θ) us ≡ true →
    ((i : ℕ) → u (Key.v i) ≡ usage_at us i) → BindersFit Θ u
binders-fit Θ us u e h = fit-as Θ (use_of us) u h (fit-onto [] Θ us e).0

-- ---- a use that fits binders
behind : Mult → Use → Use
behind q w (Key.v zero) = q
behind q w (Key.v (suc i)) = w (Key.v i)
behind q w (Key.h i) = w (Key.h i)

-- each binder used as often as its multiplicity, and d of what is older
pub fill : Tele → Use → Use
fill [] d = d
fill (b ∷ Θ) d = fill Θ (behind b.0 d)

pub fill-out : (Θ : Tele) (d : Use) (x : Key) → outs (length Θ) (fill Θ d) x ≡ d x
unfolding fill behind
fill-out [] d x = refl
fill-out (b ∷ Θ) d (Key.v i) = fill-out Θ (behind b.0 d) (Key.v (suc i))
fill-out (b ∷ Θ) d (Key.h i) = fill-out Θ (behind b.0 d) (Key.h i)

pub fill-fits : (Θ : Tele) (d : Use) → BindersFit Θ (fill Θ d)
unfolding fill behind
fill-fits [] d = tt
fill-fits (b ∷ Θ) d =
    (subst (λ m. m ≼ b.0) (sym (fill-out Θ (behind b.0 d) (Key.v 0))) (≼-refl b.0), fill-fits Θ (behind b.0 d))

-- ---- and the other way: uses that fit pass the test
pub onto-fit : (qs : List Mult) (Θ : Tele) (us : List Mult) → BindersFit Θ (use_of us) →
    binders_fit qs (drop (length Θ) us) ≡ true →
    binders_fit (mults_onto qs Θ) us ≡ true
onto-fit qs [] us f e = e
onto-fit qs (b ∷ Θ) us f e =
    let a : fits (usage_at (drop (length Θ) us) 0) b.0 ≡ true =
    is-fit _ _ (subst (λ m. m ≼ b.0) (sym (at_newest Θ us)) f.0) in
    onto-fit (b.0 ∷ qs) Θ us f.1 (rw (a, drop-more (length Θ) us) e)
  where
    is-fit : (u q : Mult) → u ≼ q → fits u q ≡ true
    is-fit u q h = grind arith
