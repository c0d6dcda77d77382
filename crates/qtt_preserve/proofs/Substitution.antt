-- Weakening, and substitution with uses.
use Rattle.std.proofs.Common.{◌≡◌, ℕ, zero, suc, ◌∷◌, refl, sym, ◌∙◌, ap, subst}
use mathlib.Core.Path.{fun_ext}
use Rattle.qtt_usage.specs.declared.mult.Mult.{Mult}
use Rattle.qtt_usage.specs.Uses.{Key, Use, unit}
use Rattle.qtt_usage.proofs.Mults.{≼-refl}
use Rattle.qtt_term.specs.Term.{Term, var}
use Rattle.qtt_term.specs.Substitution.{ren, sub, lift}
use Rattle.qtt_term.specs.Signature.{Env}
use Rattle.qtt_term.specs.Contraction.{BodiesClosed, Conv}
use Rattle.qtt_term.specs.Judgement.{Ctx, InScope, mult_at, type_at, Part, under, Usable}
use Rattle.qtt_term.proofs.Subst.{ren-is-sub, lift-ren}
use Rattle.qtt_preserve.specs.Within.{Has}
use Rattle.qtt_preserve.specs.Through.{through}
use Rattle.qtt_preserve.proofs.Uses.{wk_use, lift_uses, through-above}
use Rattle.qtt_preserve.proofs.Travel.{always, has_as, usable-under, lower, raise, travel}

-- a substitution by variables of the same multiplicities and types
abbrev pub Renames : Ctx → Ctx → (ℕ → Term) → (ℕ → Use) → Type 0
Renames Γ Δ σ M =
    (i : ℕ) → InScope Γ i →
    (j : ℕ) × InScope Δ j × (σ i ≡ var j) × (mult_at Γ i ≡ mult_at Δ j) × (sub σ (type_at Γ i) ≡ type_at Δ j) ×
    (M i ≡ unit (Key.v j))

wk-unit : (j : ℕ) → wk_use (unit (Key.v j)) ≡ unit (Key.v (suc j))
wk-unit j = fun_ext λ x. go x
  where
    go : (x : Key) → wk_use (unit (Key.v j)) x ≡ unit (Key.v (suc j)) x
    go (Key.v zero) = refl
    go (Key.v (suc i)) = refl
    go (Key.h i) = refl

renames-lift : (Γ Δ : Ctx) (σ : ℕ → Term) (M : ℕ → Use) (q : Mult) (A : Term) → Renames Γ Δ σ M →
    Renames ((q, A) ∷ Γ) ((q, sub σ A) ∷ Δ) (lift σ) (lift_uses M)
renames-lift Γ Δ σ M q A g zero s = (0, tt, refl, refl, lift-ren σ A, refl)
renames-lift Γ Δ σ M q A g (suc i) s =
    let r = g i s in
    (suc r.0, r.1, ap (ren suc) r.2, r.3, lift-ren σ (type_at Γ i) ∙ ap (ren suc) r.4, ap wk_use r.5 ∙ wk-unit r.0)

module _ (E : Env) (bodies : BodiesClosed E) where
  pub has_var : (p : Part) (Γ : Ctx) (i : ℕ) → InScope Γ i → Usable p (mult_at Γ i) →
      Has E p Γ (var i) (type_at Γ i) (unit (Key.v i))
  has_var p Γ i s m = Has.at_var s m Conv.same (always p λ x d. ≼-refl (unit (Key.v i) x))

  renames-look : (p : Part) (Γ Δ : Ctx) (σ : ℕ → Term) (M : ℕ → Use) → Renames Γ Δ σ M → (i : ℕ) → InScope Γ i →
      Usable p (mult_at Γ i) → Has E p Δ (σ i) (sub σ (type_at Γ i)) (M i)
  renames-look p Γ Δ σ M g i s m =
      let r = g i s in
      rw (r.2, r.4, r.5) (has_var p Δ r.0 r.1 (subst (Usable p) r.3 m))

  -- a term under one more binder
  pub weaken : {p : Part} {Γ : Ctx} {t A : Term} {u : Use} (b : Mult × Term) → Has E p Γ t A u →
      Has E p (b ∷ Γ) (ren suc t) (ren suc A) (wk_use u)
  weaken {p} {Γ} {t} {A} {u} b h =
      rw (ren-is-sub suc t, ren-is-sub suc A)
      (has_as E (sub (λ i. var (suc i)) A) (wk_use u)
      (travel E bodies (λ p. Renames) (λ p q Γ Δ σ M g. g) (λ p. renames-lift) renames-look h (b ∷ Γ)
      (λ i. var (suc i)) (λ i. unit (Key.v (suc i)))
      (λ i s. (suc i, s, refl, refl, sym (ren-is-sub suc (type_at Γ i)), refl)))
      Conv.same
      (always p (through-above Γ (λ i. unit (Key.v i)) b u)))

  -- a substitution by terms of a context's types, each under its variable's multiplicity, and with the row of its
  -- uses
  abbrev pub Fills : Part → Ctx → Ctx → (ℕ → Term) → (ℕ → Use) → Type 0
  Fills p Γ Δ σ M = (i : ℕ) → InScope Γ i → Has E (under p (mult_at Γ i)) Δ (σ i) (sub σ (type_at Γ i)) (M i)

  fills-lift : (p : Part) (Γ Δ : Ctx) (σ : ℕ → Term) (M : ℕ → Use) (q : Mult) (A : Term) → Fills p Γ Δ σ M →
      Fills p ((q, A) ∷ Γ) ((q, sub σ A) ∷ Δ) (lift σ) (lift_uses M)
  fills-lift p Γ Δ σ M q A g zero s = rw (lift-ren σ A) (has_var (under p q) ((q, sub σ A) ∷ Δ) 0 tt (usable-under p q))
  fills-lift p Γ Δ σ M q A g (suc i) s = rw (lift-ren σ (type_at Γ i)) (weaken (q, sub σ A) (g i s))

  pub substitution : {p : Part} {Γ : Ctx} {t A : Term} {u : Use} → Has E p Γ t A u →
      (Δ : Ctx) (σ : ℕ → Term) (M : ℕ → Use) → Fills p Γ Δ σ M → Has E p Δ (sub σ t) (sub σ A) (through Γ M u)
  substitution h =
      travel E bodies Fills (λ p q Γ Δ σ M g i s. lower p q (mult_at Γ i) (g i s)) fills-lift
      (λ p Γ Δ σ M g i s m. raise p (mult_at Γ i) m (g i s)) h
