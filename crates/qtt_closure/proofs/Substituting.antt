-- Terms that stand for one another still do so after substitution.
use Rattle.std.proofs.Common.{◌≡◌, ℕ, zero, suc, ◌<◌, Some, List, [], refl, sym, ◌∙◌, ap, subst}
use Rattle.qtt_term.specs.Term.{first, rest}
use Rattle.qtt_term.specs.Substitution.{lifts_ren}
use Rattle.qtt_erase.specs.Binding.{Tree, size, cons, push, ren, rens, lift, lifts, sub, subs, Below}
use Rattle.qtt_erase.specs.Operator.{Operator}
use Rattle.qtt_erase.specs.Lean.{Abstraction, Lean, Leans}
use Rattle.qtt_erase.specs.Lean as lean
use Rattle.qtt_erase.proofs.Bindings.{ren-is-sub, rens-are-subs, sub-sub, sub-below, push-then_sub, push-agree, subs-size}
use Rattle.qtt_closure.specs.Flat.{Closure, FlatTerm, FlatTerms, Function, Program}
use Rattle.qtt_closure.specs.Flat as flat
use Rattle.qtt_closure.specs.Conversion.{arity, other}
use Rattle.qtt_closure.specs.StandsFor.{IsOther, function_of, StandsFor, AllStandFor}

same-binders : (F : Operator Abstraction) → IsOther F → flat.binders (other F) ≡ lean.binders F
same-binders (Operator.function a) o = absurd o
same-binders Operator.app o = refl
same-binders Operator.force o = refl
same-binders (Operator.def d) o = refl
same-binders (Operator.con c) o = refl
same-binders (Operator.case ns) o = refl
same-binders (Operator.lit l) o = refl
same-binders (Operator.prim p) o = refl
same-binders (Operator.act a) o = refl
same-binders Operator.trap o = refl
same-binders Operator.ty o = refl
same-binders (Operator.tape n) o = refl

-- a body with terms for its captured variables, into which is substituted
filled : (a : Abstraction) (b : Lean) (ls : Leans) (σ : ℕ → Lean) → Below lean.binders (size ls) (function_of a b) →
    sub lean.binders σ (sub lean.binders (push ls Tree.var) (function_of a b)) ≡ sub lean.binders
    (push (subs lean.binders [] σ ls) Tree.var) (function_of a b)
filled a b ls σ w =
    sub-sub lean.binders (function_of a b) σ (push ls Tree.var)
    ∙ ap (λ τ. sub lean.binders τ (function_of a b)) (push-then_sub lean.binders ls σ Tree.var)
    ∙ sub-below lean.binders (function_of a b) (size ls) _ _ at w
  where
    at : (i : ℕ) → i < size ls → push (subs lean.binders [] σ ls) σ i ≡ push (subs lean.binders [] σ ls) Tree.var i
    at i p = push-agree (subs lean.binders [] σ ls) σ Tree.var i
        (subst (λ k. i < k) (sym (subs-size lean.binders ls [] σ)) p)

module _ (P : Program) where
  pub all-size : {ts : Leans} {us : FlatTerms} → AllStandFor P ts us → size ts ≡ size us
  all-size AllStandFor.none = refl
  all-size (AllStandFor.more p h) = ap suc (all-size h)

  -- a closure after a substitution, into what it captured
  closed : {a : Abstraction} {b : Lean} {c : Closure} {F : Function} {vs : FlatTerms} (ls : Leans)
      (σ : ℕ → Lean) → P c.number ≡ Some F →
      c.captured ≡ size ls → F.captured ≡ size ls → F.takes ≡ arity a → StandsFor P b F.body →
      Below lean.binders (size ls) (function_of a b) →
      AllStandFor P (subs lean.binders [] σ ls) vs →
      StandsFor P (sub lean.binders σ (sub lean.binders (push ls Tree.var) (function_of a b)))
      (Tree.node (Operator.function c) vs)
  closed {a = a} {b = b} ls σ p c k s r w h =
      let size-kept : size ls ≡ size (subs lean.binders [] σ ls) = sym (subs-size lean.binders ls [] σ) in
      StandsFor.closure p (c ∙ size-kept) (k ∙ size-kept) s r
      (subst (λ n. Below lean.binders n (function_of a b)) size-kept w) h (filled a b ls σ w)

  mutual
    stands-ren : {t : Lean} {u : FlatTerm} → StandsFor P t u →
        (ρ : ℕ → ℕ) → StandsFor P (ren lean.binders ρ t) (ren flat.binders ρ u)
    stands-ren StandsFor.variable ρ = StandsFor.variable
    stands-ren (StandsFor.operator {F = F} {ts = ts} {us = us} o h) ρ =
        StandsFor.operator o
        (subst (λ ns. AllStandFor P (rens lean.binders (lean.binders F) ρ ts) (rens flat.binders ns ρ us))
        (sym (same-binders F o)) (all-ren h (lean.binders F) ρ))
    stands-ren (StandsFor.closure {a = a} {b = b} {t = t} {ls = ls} {c = c} {vs = vs} p n k s r w h e) ρ =
        subst (λ x. StandsFor P x (Tree.node (Operator.function c) (rens flat.binders [] ρ vs)))
        (sym (ap (ren lean.binders ρ) e ∙ ren-is-sub lean.binders ρ
        (sub lean.binders (push ls Tree.var) (function_of a b))))
        (closed ls (λ i. Tree.var (ρ i)) p n k s r w
        (subst (λ xs. AllStandFor P xs (rens flat.binders [] ρ vs)) (rens-are-subs lean.binders ls [] ρ)
        (all-ren h [] ρ)))

    all-ren : {ts : Leans} {us : FlatTerms} → AllStandFor P ts us → (ns : List ℕ) (ρ : ℕ → ℕ) →
        AllStandFor P (rens lean.binders ns ρ ts) (rens flat.binders ns ρ us)
    all-ren AllStandFor.none ns ρ = AllStandFor.none
    all-ren (AllStandFor.more p h) ns ρ =
        AllStandFor.more (stands-ren p (lifts_ren (first ns) ρ)) (all-ren h (rest ns) ρ)

  abbrev pub Carries : (ℕ → Lean) → (ℕ → FlatTerm) → Type 0
  Carries σ τ = (i : ℕ) → StandsFor P (σ i) (τ i)

  carries-lift : (σ : ℕ → Lean) (τ : ℕ → FlatTerm) → Carries σ τ → Carries (lift lean.binders σ) (lift flat.binders τ)
  carries-lift σ τ h zero = StandsFor.variable
  carries-lift σ τ h (suc i) = stands-ren (h i) suc

  carries-lifts : (n : ℕ) (σ : ℕ → Lean) (τ : ℕ → FlatTerm) → Carries σ τ →
      Carries (lifts lean.binders n σ) (lifts flat.binders n τ)
  carries-lifts zero σ τ h = h
  carries-lifts (suc n) σ τ h = carries-lifts n _ _ (carries-lift σ τ h)

  mutual
    pub stands-sub : {t : Lean} {u : FlatTerm} → StandsFor P t u → (σ : ℕ → Lean) (τ : ℕ → FlatTerm) → Carries σ τ →
        StandsFor P (sub lean.binders σ t) (sub flat.binders τ u)
    stands-sub (StandsFor.variable {i = i}) σ τ g = g i
    stands-sub (StandsFor.operator {F = F} {ts = ts} {us = us} o h) σ τ g =
        StandsFor.operator o
        (subst (λ ns. AllStandFor P (subs lean.binders (lean.binders F) σ ts) (subs flat.binders ns τ us))
        (sym (same-binders F o)) (all-sub h (lean.binders F) σ τ g))
    stands-sub (StandsFor.closure {ls = ls} {c = c} {vs = vs} p n k s r w h e) σ τ g =
        subst (λ x. StandsFor P x (Tree.node (Operator.function c) (subs flat.binders [] τ vs)))
        (sym (ap (sub lean.binders σ) e))
        (closed ls σ p n k s r w (all-sub h [] σ τ g))

    all-sub : {ts : Leans} {us : FlatTerms} → AllStandFor P ts us →
        (ns : List ℕ) (σ : ℕ → Lean) (τ : ℕ → FlatTerm) → Carries σ τ →
        AllStandFor P (subs lean.binders ns σ ts) (subs flat.binders ns τ us)
    all-sub AllStandFor.none ns σ τ g = AllStandFor.none
    all-sub (AllStandFor.more p h) ns σ τ g =
        AllStandFor.more (stands-sub p _ _ (carries-lifts (first ns) σ τ g)) (all-sub h (rest ns) σ τ g)

  -- ---- pushed terms
  carries-cons : {t : Lean} {u : FlatTerm} → StandsFor P t u → (σ : ℕ → Lean) (τ : ℕ → FlatTerm) → Carries σ τ →
      Carries (cons t σ) (cons u τ)
  carries-cons p σ τ g zero = p
  carries-cons p σ τ g (suc i) = g i

  carries-push : {ts : Leans} {us : FlatTerms} → AllStandFor P ts us →
      (σ : ℕ → Lean) (τ : ℕ → FlatTerm) → Carries σ τ → Carries (push ts σ) (push us τ)
  carries-push AllStandFor.none σ τ g = g
  carries-push (AllStandFor.more p h) σ τ g = carries-push h _ _ (carries-cons p σ τ g)

  pub pushed-stand : {t : Lean} {u : FlatTerm} {ts : Leans} {us : FlatTerms} → StandsFor P t u → AllStandFor P ts us →
      StandsFor P (sub lean.binders (push ts Tree.var) t) (sub flat.binders (push us Tree.var) u)
  pushed-stand p h = stands-sub p _ _ (carries-push h Tree.var Tree.var (λ i. StandsFor.variable))
