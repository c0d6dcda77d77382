-- Laws of substitution in trees with binders.
use Rattle.std.proofs.Common.{◌≡◌, ℕ, zero, suc, ◌+◌, ◌<◌, List, [], refl, sym, ◌∙◌, ap, arith}
use mathlib.Core.Path.{fun_ext, ap₂}
use Rattle.qtt_term.specs.Term.{first, rest}
use Rattle.qtt_term.specs.Substitution.{lift_ren, lifts_ren, shift}
use Rattle.qtt_erase.specs.Binding.{Tree, Trees, ∅, ◌◂◌, ◌◂◂◌, size, cons, push, ren, rens, lift, lifts, sub, subs, Below, AllBelow}

lift_ren-id : lift_ren (λ i. i) ≡ (λ i. i)
lift_ren-id = fun_ext go
  where
    go : (i : ℕ) → lift_ren (λ j. j) i ≡ i
    go zero = refl
    go (suc i) = refl

lifts_ren-id : (n : ℕ) → lifts_ren n (λ i. i) ≡ (λ i. i)
lifts_ren-id zero = refl
lifts_ren-id (suc n) = ap (lifts_ren n) lift_ren-id ∙ lifts_ren-id n

module _ {O : Type 0} (binders : O → List ℕ) where
  lift-after_ren : (σ : ℕ → Tree O) (ρ : ℕ → ℕ) → (λ i. lift binders σ (lift_ren ρ i)) ≡ lift binders (λ i. σ (ρ i))
  lift-after_ren σ ρ = fun_ext go
    where
      go : (i : ℕ) → lift binders σ (lift_ren ρ i) ≡ lift binders (λ j. σ (ρ j)) i
      go zero = refl
      go (suc i) = refl

  lifts-after_ren : (n : ℕ) (σ : ℕ → Tree O) (ρ : ℕ → ℕ) →
      (λ i. lifts binders n σ (lifts_ren n ρ i)) ≡ lifts binders n (λ i. σ (ρ i))
  lifts-after_ren zero σ ρ = refl
  lifts-after_ren (suc n) σ ρ =
      lifts-after_ren n (lift binders σ) (lift_ren ρ) ∙ ap (lifts binders n) (lift-after_ren σ ρ)

  mutual
    pub sub-ren : (t : Tree O) (σ : ℕ → Tree O) (ρ : ℕ → ℕ) →
        sub binders σ (ren binders ρ t) ≡ sub binders (λ i. σ (ρ i)) t
    sub-ren (Tree.var i) σ ρ = refl
    sub-ren (Tree.node F ts) σ ρ = ap (Tree.node F) (subs-rens ts (binders F) σ ρ)

    pub subs-rens : (ts : Trees O) (ns : List ℕ) (σ : ℕ → Tree O) (ρ : ℕ → ℕ) →
        subs binders ns σ (rens binders ns ρ ts) ≡ subs binders ns (λ i. σ (ρ i)) ts
    subs-rens ∅ ns σ ρ = refl
    subs-rens (t ◂ ts) ns σ ρ =
        ap₂ ◌◂◌ (sub-ren t (lifts binders (first ns) σ) (lifts_ren (first ns) ρ) ∙ ap (λ f. sub binders f t)
        (lifts-after_ren (first ns) σ ρ))
        (subs-rens ts (rest ns) σ ρ)

  lift-var : (ρ : ℕ → ℕ) → (λ i. Tree.var (lift_ren ρ i)) ≡ lift binders (λ i. Tree.var (ρ i))
  lift-var ρ = fun_ext go
    where
      go : (i : ℕ) → Tree.var (lift_ren ρ i) ≡ lift binders (λ j. Tree.var (ρ j)) i
      go zero = refl
      go (suc i) = refl

  lifts-var : (n : ℕ) (ρ : ℕ → ℕ) → (λ i. Tree.var (lifts_ren n ρ i)) ≡ lifts binders n (λ i. Tree.var (ρ i))
  lifts-var zero ρ = refl
  lifts-var (suc n) ρ = lifts-var n (lift_ren ρ) ∙ ap (lifts binders n) (lift-var ρ)

  mutual
    pub ren-is-sub : (ρ : ℕ → ℕ) (t : Tree O) → ren binders ρ t ≡ sub binders (λ i. Tree.var (ρ i)) t
    ren-is-sub ρ (Tree.var i) = refl
    ren-is-sub ρ (Tree.node F ts) = ap (Tree.node F) (rens-are-subs ts (binders F) ρ)

    pub rens-are-subs : (ts : Trees O) (ns : List ℕ) (ρ : ℕ → ℕ) →
        rens binders ns ρ ts ≡ subs binders ns (λ i. Tree.var (ρ i)) ts
    rens-are-subs ∅ ns ρ = refl
    rens-are-subs (t ◂ ts) ns ρ =
        ap₂ ◌◂◌ (ren-is-sub (lifts_ren (first ns) ρ) t ∙ ap (λ f. sub binders f t) (lifts-var (first ns) ρ))
        (rens-are-subs ts (rest ns) ρ)

  ren-ren : (ρ π : ℕ → ℕ) (t : Tree O) → ren binders ρ (ren binders π t) ≡ ren binders (λ i. ρ (π i)) t
  ren-ren ρ π t = ren-is-sub ρ (ren binders π t) ∙ sub-ren t (λ i. Tree.var (ρ i)) π ∙ sym (ren-is-sub (λ i. ρ (π i)) t)

  lift-then_ren : (ρ : ℕ → ℕ) (σ : ℕ → Tree O) →
      (λ i. ren binders (lift_ren ρ) (lift binders σ i)) ≡ lift binders (λ i. ren binders ρ (σ i))
  lift-then_ren ρ σ = fun_ext go
    where
      go : (i : ℕ) → ren binders (lift_ren ρ) (lift binders σ i) ≡ lift binders (λ j. ren binders ρ (σ j)) i
      go zero = refl
      go (suc i) = ren-ren (lift_ren ρ) suc (σ i) ∙ sym (ren-ren suc ρ (σ i))

  lifts-then_ren : (n : ℕ) (ρ : ℕ → ℕ) (σ : ℕ → Tree O) →
      (λ i. ren binders (lifts_ren n ρ) (lifts binders n σ i)) ≡ lifts binders n (λ i. ren binders ρ (σ i))
  lifts-then_ren zero ρ σ = refl
  lifts-then_ren (suc n) ρ σ = lifts-then_ren n (lift_ren ρ) (lift binders σ) ∙ ap (lifts binders n) (lift-then_ren ρ σ)

  mutual
    pub ren-sub : (t : Tree O) (ρ : ℕ → ℕ) (σ : ℕ → Tree O) →
        ren binders ρ (sub binders σ t) ≡ sub binders (λ i. ren binders ρ (σ i)) t
    ren-sub (Tree.var i) ρ σ = refl
    ren-sub (Tree.node F ts) ρ σ = ap (Tree.node F) (rens-subs ts (binders F) ρ σ)

    pub rens-subs : (ts : Trees O) (ns : List ℕ) (ρ : ℕ → ℕ) (σ : ℕ → Tree O) →
        rens binders ns ρ (subs binders ns σ ts) ≡ subs binders ns (λ i. ren binders ρ (σ i)) ts
    rens-subs ∅ ns ρ σ = refl
    rens-subs (t ◂ ts) ns ρ σ =
        ap₂ ◌◂◌ (ren-sub t (lifts_ren (first ns) ρ) (lifts binders (first ns) σ) ∙ ap (λ f. sub binders f t)
        (lifts-then_ren (first ns) ρ σ))
        (rens-subs ts (rest ns) ρ σ)

  lift-then_sub : (σ τ : ℕ → Tree O) →
      (λ i. sub binders (lift binders σ) (lift binders τ i)) ≡ lift binders (λ i. sub binders σ (τ i))
  lift-then_sub σ τ = fun_ext go
    where
      go : (i : ℕ) → sub binders (lift binders σ) (lift binders τ i) ≡ lift binders (λ j. sub binders σ (τ j)) i
      go zero = refl
      go (suc i) = sub-ren (τ i) (lift binders σ) suc ∙ sym (ren-sub (τ i) suc σ)

  lifts-then_sub : (n : ℕ) (σ τ : ℕ → Tree O) →
      (λ i. sub binders (lifts binders n σ) (lifts binders n τ i)) ≡ lifts binders n (λ i. sub binders σ (τ i))
  lifts-then_sub zero σ τ = refl
  lifts-then_sub (suc n) σ τ =
      lifts-then_sub n (lift binders σ) (lift binders τ) ∙ ap (lifts binders n) (lift-then_sub σ τ)

  mutual
    pub sub-sub : (t : Tree O) (σ τ : ℕ → Tree O) →
        sub binders σ (sub binders τ t) ≡ sub binders (λ i. sub binders σ (τ i)) t
    sub-sub (Tree.var i) σ τ = refl
    sub-sub (Tree.node F ts) σ τ = ap (Tree.node F) (subs-subs ts (binders F) σ τ)

    pub subs-subs : (ts : Trees O) (ns : List ℕ) (σ τ : ℕ → Tree O) →
        subs binders ns σ (subs binders ns τ ts) ≡ subs binders ns (λ i. sub binders σ (τ i)) ts
    subs-subs ∅ ns σ τ = refl
    subs-subs (t ◂ ts) ns σ τ =
        ap₂ ◌◂◌ (sub-sub t (lifts binders (first ns) σ) (lifts binders (first ns) τ) ∙ ap (λ f. sub binders f t)
        (lifts-then_sub (first ns) σ τ))
        (subs-subs ts (rest ns) σ τ)

  mutual
    pub ren-id : (t : Tree O) → ren binders (λ i. i) t ≡ t
    ren-id (Tree.var i) = refl
    ren-id (Tree.node F ts) = ap (Tree.node F) (rens-id ts (binders F))

    rens-id : (ts : Trees O) (ns : List ℕ) → rens binders ns (λ i. i) ts ≡ ts
    rens-id ∅ ns = refl
    rens-id (t ◂ ts) ns = ap₂ ◌◂◌ (ap (λ f. ren binders f t) (lifts_ren-id (first ns)) ∙ ren-id t)
        (rens-id ts (rest ns))

  lift-id : lift binders Tree.var ≡ Tree.var
  lift-id = fun_ext go
    where
      go : (i : ℕ) → lift binders Tree.var i ≡ Tree.var i
      go zero = refl
      go (suc i) = refl

  lifts-id : (n : ℕ) → lifts binders n Tree.var ≡ Tree.var
  lifts-id zero = refl
  lifts-id (suc n) = ap (lifts binders n) lift-id ∙ lifts-id n

  mutual
    pub sub-var : (t : Tree O) → sub binders Tree.var t ≡ t
    sub-var (Tree.var i) = refl
    sub-var (Tree.node F ts) = ap (Tree.node F) (subs-var ts (binders F))

    subs-var : (ts : Trees O) (ns : List ℕ) → subs binders ns Tree.var ts ≡ ts
    subs-var ∅ ns = refl
    subs-var (t ◂ ts) ns = ap₂ ◌◂◌ (ap (λ f. sub binders f t) (lifts-id (first ns)) ∙ sub-var t) (subs-var ts (rest ns))

  -- ---- substitutions that agree below n
  abbrev Agree : ℕ → (ℕ → Tree O) → (ℕ → Tree O) → Type 0
  Agree n σ τ = (i : ℕ) → i < n → σ i ≡ τ i

  lift-agree : (n : ℕ) (σ τ : ℕ → Tree O) → Agree n σ τ → Agree (suc n) (lift binders σ) (lift binders τ)
  lift-agree n σ τ h zero p = refl
  lift-agree n σ τ h (suc i) p = ap (ren binders suc) (h i (omega arith))

  lifts-agree : (m n : ℕ) (σ τ : ℕ → Tree O) → Agree n σ τ → Agree (m + n) (lifts binders m σ) (lifts binders m τ)
  lifts-agree zero n σ τ h i p = h i (omega arith)
  lifts-agree (suc m) n σ τ h i p =
      lifts-agree m (suc n) (lift binders σ) (lift binders τ) (lift-agree n σ τ h) i (omega arith)

  mutual
    pub sub-below : (t : Tree O) (n : ℕ) (σ τ : ℕ → Tree O) → Agree n σ τ → Below binders n t →
        sub binders σ t ≡ sub binders τ t
    sub-below (Tree.var i) n σ τ h b = h i b
    sub-below (Tree.node F ts) n σ τ h b = ap (Tree.node F) (subs-below ts (binders F) n σ τ h b)

    pub subs-below : (ts : Trees O) (ns : List ℕ) (n : ℕ) (σ τ : ℕ → Tree O) → Agree n σ τ → AllBelow binders ns n ts →
        subs binders ns σ ts ≡ subs binders ns τ ts
    subs-below ∅ ns n σ τ h b = refl
    subs-below (t ◂ ts) ns n σ τ h b =
        ap₂ ◌◂◌ (sub-below t (first ns + n) (lifts binders (first ns) σ) (lifts binders (first ns) τ)
        (lifts-agree (first ns) n σ τ h) b.0)
        (subs-below ts (rest ns) n σ τ h b.1)

  -- ---- pushed terms
  cons-then_sub : (σ τ : ℕ → Tree O) (a : Tree O) →
      (λ i. sub binders σ (cons a τ i)) ≡ cons (sub binders σ a) (λ i. sub binders σ (τ i))
  cons-then_sub σ τ a = fun_ext go
    where
      go : (i : ℕ) → sub binders σ (cons a τ i) ≡ cons (sub binders σ a) (λ j. sub binders σ (τ j)) i
      go zero = refl
      go (suc i) = refl

  pub push-then_sub : (ts : Trees O) (σ τ : ℕ → Tree O) →
      (λ i. sub binders σ (push ts τ i)) ≡ push (subs binders [] σ ts) (λ i. sub binders σ (τ i))
  push-then_sub ∅ σ τ = refl
  push-then_sub (t ◂ ts) σ τ = push-then_sub ts σ (cons t τ) ∙ ap (push (subs binders [] σ ts)) (cons-then_sub σ τ t)

  pub subs-size : (ts : Trees O) (ns : List ℕ) (σ : ℕ → Tree O) → size (subs binders ns σ ts) ≡ size ts
  subs-size ∅ ns σ = refl
  subs-size (t ◂ ts) ns σ = ap suc (subs-size ts (rest ns) σ)

-- the pushed terms alone answer for the newest variables
push-newest : {O : Type 0} (ts : Trees O) (σ τ : ℕ → Tree O) (k : ℕ) → ((i : ℕ) → i < k → σ i ≡ τ i) →
    (i : ℕ) → i < size ts + k → push ts σ i ≡ push ts τ i
push-newest ∅ σ τ k h i p = h i (omega arith)
push-newest (t ◂ ts) σ τ k h i p = push-newest ts (cons t σ) (cons t τ) (suc k) go i (omega arith)
  where
    go : (i : ℕ) → i < suc k → cons t σ i ≡ cons t τ i
    go zero q = refl
    go (suc i) q = h i (omega arith)

pub push-agree : {O : Type 0} (ts : Trees O) (σ τ : ℕ → Tree O) (i : ℕ) → i < size ts → push ts σ i ≡ push ts τ i
push-agree ts σ τ i p = push-newest ts σ τ 0 (λ j q. absurd (omega arith)) i (omega arith)

pub push-append : {O : Type 0} (ts us : Trees O) (σ : ℕ → Tree O) → push (ts ◂◂ us) σ ≡ push us (push ts σ)
push-append ∅ us σ = refl
push-append (t ◂ ts) us σ = push-append ts us (cons t σ)

pub push-behind : {O : Type 0} (ts : Trees O) (σ : ℕ → Tree O) (i : ℕ) → push ts σ (shift (size ts) i) ≡ σ i
push-behind ∅ σ i = refl
push-behind (t ◂ ts) σ i = ap (push ts (cons t σ)) (shift-suc (size ts) i) ∙ push-behind ts (cons t σ) (suc i)
  where
    shift-suc : (n i : ℕ) → shift (suc n) i ≡ shift n (suc i)
    shift-suc zero i = refl
    shift-suc (suc n) i = ap suc (shift-suc n i)
