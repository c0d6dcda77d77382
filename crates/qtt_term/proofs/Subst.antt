-- Laws of substitution.
use Rattle.std.proofs.Common.{◌≡◌, ℕ, zero, suc, List, [], refl, sym, ◌∙◌, ap}
use mathlib.Core.Path.{fun_ext, ap₂}
use Rattle.qtt_term.specs.Term.{binders, first, rest, Term, Terms, var, node, ε, ◌▸◌, size, ◌+++◌}
use Rattle.qtt_term.specs.Substitution.{ren, rens, lift_ren, lifts_ren, sub, subs, lift, lifts, cons, push, inst, shift}

lift-after_ren : (σ : ℕ → Term) (ρ : ℕ → ℕ) → (λ i. lift σ (lift_ren ρ i)) ≡ lift (λ i. σ (ρ i))
lift-after_ren σ ρ = fun_ext go
  where
    go : (i : ℕ) → lift σ (lift_ren ρ i) ≡ lift (λ j. σ (ρ j)) i
    go zero = refl
    go (suc i) = refl

lifts-after_ren : (n : ℕ) (σ : ℕ → Term) (ρ : ℕ → ℕ) → (λ i. lifts n σ (lifts_ren n ρ i)) ≡ lifts n (λ i. σ (ρ i))
lifts-after_ren zero σ ρ = refl
lifts-after_ren (suc n) σ ρ = lifts-after_ren n (lift σ) (lift_ren ρ) ∙ ap (lifts n) (lift-after_ren σ ρ)

mutual
  pub sub-ren : (t : Term) (σ : ℕ → Term) (ρ : ℕ → ℕ) → sub σ (ren ρ t) ≡ sub (λ i. σ (ρ i)) t
  sub-ren (var i) σ ρ = refl
  sub-ren (node F ts) σ ρ = ap (node F) (subs-rens ts (binders F) σ ρ)

  subs-rens : (ts : Terms) (ns : List ℕ) (σ : ℕ → Term) (ρ : ℕ → ℕ) →
      subs ns σ (rens ns ρ ts) ≡ subs ns (λ i. σ (ρ i)) ts
  subs-rens ε ns σ ρ = refl
  subs-rens (t ▸ ts) ns σ ρ =
      ap₂ ◌▸◌ (sub-ren t (lifts (first ns) σ) (lifts_ren (first ns) ρ) ∙ ap (λ f. sub f t)
      (lifts-after_ren (first ns) σ ρ))
      (subs-rens ts (rest ns) σ ρ)

lift-var : (ρ : ℕ → ℕ) → (λ i. var (lift_ren ρ i)) ≡ lift (λ i. var (ρ i))
lift-var ρ = fun_ext go
  where
    go : (i : ℕ) → var (lift_ren ρ i) ≡ lift (λ j. var (ρ j)) i
    go zero = refl
    go (suc i) = refl

lifts-var : (n : ℕ) (ρ : ℕ → ℕ) → (λ i. var (lifts_ren n ρ i)) ≡ lifts n (λ i. var (ρ i))
lifts-var zero ρ = refl
lifts-var (suc n) ρ = lifts-var n (lift_ren ρ) ∙ ap (lifts n) (lift-var ρ)

mutual
  ren-sub_var : (t : Term) (ρ : ℕ → ℕ) → ren ρ t ≡ sub (λ i. var (ρ i)) t
  ren-sub_var (var i) ρ = refl
  ren-sub_var (node F ts) ρ = ap (node F) (rens-sub_var ts (binders F) ρ)

  rens-sub_var : (ts : Terms) (ns : List ℕ) (ρ : ℕ → ℕ) → rens ns ρ ts ≡ subs ns (λ i. var (ρ i)) ts
  rens-sub_var ε ns ρ = refl
  rens-sub_var (t ▸ ts) ns ρ =
      ap₂ ◌▸◌ (ren-sub_var t (lifts_ren (first ns) ρ) ∙ ap (λ f. sub f t) (lifts-var (first ns) ρ))
      (rens-sub_var ts (rest ns) ρ)

pub ren-is-sub : (ρ : ℕ → ℕ) (t : Term) → ren ρ t ≡ sub (λ i. var (ρ i)) t
ren-is-sub ρ t = ren-sub_var t ρ

ren-ren : (ρ π : ℕ → ℕ) (t : Term) → ren ρ (ren π t) ≡ ren (λ i. ρ (π i)) t
ren-ren ρ π t = ren-sub_var (ren π t) ρ ∙ sub-ren t (λ i. var (ρ i)) π ∙ sym (ren-sub_var t (λ i. ρ (π i)))

lift-then_ren : (ρ : ℕ → ℕ) (σ : ℕ → Term) → (λ i. ren (lift_ren ρ) (lift σ i)) ≡ lift (λ i. ren ρ (σ i))
lift-then_ren ρ σ = fun_ext go
  where
    go : (i : ℕ) → ren (lift_ren ρ) (lift σ i) ≡ lift (λ j. ren ρ (σ j)) i
    go zero = refl
    go (suc i) = ren-ren (lift_ren ρ) suc (σ i) ∙ sym (ren-ren suc ρ (σ i))

lifts-then_ren : (n : ℕ) (ρ : ℕ → ℕ) (σ : ℕ → Term) →
    (λ i. ren (lifts_ren n ρ) (lifts n σ i)) ≡ lifts n (λ i. ren ρ (σ i))
lifts-then_ren zero ρ σ = refl
lifts-then_ren (suc n) ρ σ = lifts-then_ren n (lift_ren ρ) (lift σ) ∙ ap (lifts n) (lift-then_ren ρ σ)

mutual
  pub ren-sub : (t : Term) (ρ : ℕ → ℕ) (σ : ℕ → Term) → ren ρ (sub σ t) ≡ sub (λ i. ren ρ (σ i)) t
  ren-sub (var i) ρ σ = refl
  ren-sub (node F ts) ρ σ = ap (node F) (rens-subs ts (binders F) ρ σ)

  rens-subs : (ts : Terms) (ns : List ℕ) (ρ : ℕ → ℕ) (σ : ℕ → Term) →
      rens ns ρ (subs ns σ ts) ≡ subs ns (λ i. ren ρ (σ i)) ts
  rens-subs ε ns ρ σ = refl
  rens-subs (t ▸ ts) ns ρ σ =
      ap₂ ◌▸◌ (ren-sub t (lifts_ren (first ns) ρ) (lifts (first ns) σ) ∙ ap (λ f. sub f t)
      (lifts-then_ren (first ns) ρ σ))
      (rens-subs ts (rest ns) ρ σ)

lift-then_sub : (σ τ : ℕ → Term) → (λ i. sub (lift σ) (lift τ i)) ≡ lift (λ i. sub σ (τ i))
lift-then_sub σ τ = fun_ext go
  where
    go : (i : ℕ) → sub (lift σ) (lift τ i) ≡ lift (λ j. sub σ (τ j)) i
    go zero = refl
    go (suc i) = sub-ren (τ i) (lift σ) suc ∙ sym (ren-sub (τ i) suc σ)

pub lifts-then_sub : (n : ℕ) (σ τ : ℕ → Term) → (λ i. sub (lifts n σ) (lifts n τ i)) ≡ lifts n (λ i. sub σ (τ i))
lifts-then_sub zero σ τ = refl
lifts-then_sub (suc n) σ τ = lifts-then_sub n (lift σ) (lift τ) ∙ ap (lifts n) (lift-then_sub σ τ)

mutual
  sub-after : (t : Term) (σ τ : ℕ → Term) → sub σ (sub τ t) ≡ sub (λ i. sub σ (τ i)) t
  sub-after (var i) σ τ = refl
  sub-after (node F ts) σ τ = ap (node F) (subs-after ts (binders F) σ τ)

  pub subs-after : (ts : Terms) (ns : List ℕ) (σ τ : ℕ → Term) →
      subs ns σ (subs ns τ ts) ≡ subs ns (λ i. sub σ (τ i)) ts
  subs-after ε ns σ τ = refl
  subs-after (t ▸ ts) ns σ τ =
      ap₂ ◌▸◌ (sub-after t (lifts (first ns) σ) (lifts (first ns) τ) ∙ ap (λ f. sub f t)
      (lifts-then_sub (first ns) σ τ))
      (subs-after ts (rest ns) σ τ)

pub sub-sub : (σ τ : ℕ → Term) (t : Term) → sub σ (sub τ t) ≡ sub (λ i. sub σ (τ i)) t
sub-sub σ τ t = sub-after t σ τ

lift-id : lift (λ i. var i) ≡ (λ i. var i)
lift-id = fun_ext go
  where
    go : (i : ℕ) → lift (λ j. var j) i ≡ var i
    go zero = refl
    go (suc i) = refl

lifts-id : (n : ℕ) → lifts n (λ i. var i) ≡ (λ i. var i)
lifts-id zero = refl
lifts-id (suc n) = ap (lifts n) lift-id ∙ lifts-id n

mutual
  pub sub-id : (t : Term) → sub (λ i. var i) t ≡ t
  sub-id (var i) = refl
  sub-id (node F ts) = ap (node F) (subs-id ts (binders F))

  subs-id : (ts : Terms) (ns : List ℕ) → subs ns (λ i. var i) ts ≡ ts
  subs-id ε ns = refl
  subs-id (t ▸ ts) ns = ap₂ ◌▸◌ (ap (λ f. sub f t) (lifts-id (first ns)) ∙ sub-id t) (subs-id ts (rest ns))

pub sub-var : (t : Term) → sub var t ≡ t
sub-var t = sub-id t

shift-suc : (n i : ℕ) → shift (suc n) i ≡ shift n (suc i)
shift-suc zero i = refl
shift-suc (suc n) i = ap suc (shift-suc n i)

-- a substitution that is the same at each variable
pub sub-along : (σ τ : ℕ → Term) (t : Term) → ((i : ℕ) → σ i ≡ τ i) → sub σ t ≡ sub τ t
sub-along σ τ t h = ap (λ f. sub f t) (fun_ext h)

pub lift-ren : (σ : ℕ → Term) (t : Term) → sub (lift σ) (ren suc t) ≡ ren suc (sub σ t)
lift-ren σ t =
    ap (sub (lift σ)) (ren-is-sub suc t) ∙ sub-sub (lift σ) (λ i. var (suc i)) t
    ∙ sub-along (λ i. ren suc (σ i)) (λ i. sub (λ j. var (suc j)) (σ i)) t (λ i. ren-is-sub suc (σ i))
    ∙ sym (sub-sub (λ j. var (suc j)) σ t) ∙ sym (ren-is-sub suc (sub σ t))

pub inst-ren : (a t : Term) → sub (cons a var) (ren suc t) ≡ t
inst-ren a t = ap (sub (cons a var)) (ren-is-sub suc t) ∙ sub-sub (cons a var) (λ i. var (suc i)) t ∙ sub-var t

pub inst-sub : (σ : ℕ → Term) (b a : Term) → sub σ (inst b a) ≡ inst (sub (lift σ) b) (sub σ a)
inst-sub σ b a =
    sub-sub σ (cons a var) b ∙ sub-along _ _ b go ∙ sym (sub-sub (cons (sub σ a) var) (lift σ) b)
  where
    go : (i : ℕ) → sub σ (cons a var i) ≡ sub (cons (sub σ a) var) (lift σ i)
    go zero = refl
    go (suc i) = sym (inst-ren (sub σ a) (σ i))

-- ---- pushed terms
pub cons-then_sub : (σ τ : ℕ → Term) (a : Term) → (λ i. sub σ (cons a τ i)) ≡ cons (sub σ a) (λ i. sub σ (τ i))
cons-then_sub σ τ a = fun_ext go
  where
    go : (i : ℕ) → sub σ (cons a τ i) ≡ cons (sub σ a) (λ j. sub σ (τ j)) i
    go zero = refl
    go (suc i) = refl

pub push-then_sub : (ts : Terms) (σ τ : ℕ → Term) → (λ i. sub σ (push ts τ i)) ≡ push (subs [] σ ts) (λ i. sub σ (τ i))
push-then_sub ε σ τ = refl
push-then_sub (t ▸ ts) σ τ = push-then_sub ts σ (cons t τ) ∙ ap (push (subs [] σ ts)) (cons-then_sub σ τ t)

lift-cons : (σ τ : ℕ → Term) (a : Term) → (λ i. sub (cons a σ) (lift τ i)) ≡ cons a (λ i. sub σ (τ i))
lift-cons σ τ a = fun_ext go
  where
    go : (i : ℕ) → sub (cons a σ) (lift τ i) ≡ cons a (λ j. sub σ (τ j)) i
    go zero = refl
    go (suc i) = sub-ren (τ i) (cons a σ) suc

pub cons-ren : (σ : ℕ → Term) (a t : Term) → sub (cons a σ) (ren suc t) ≡ sub σ t
cons-ren σ a t = sub-ren t (cons a σ) suc

-- terms for variables that were kept
pub push-lifts : (ts : Terms) (σ τ : ℕ → Term) →
    (λ i. sub (push ts σ) (lifts (size ts) τ i)) ≡ push ts (λ i. sub σ (τ i))
push-lifts ε σ τ = refl
push-lifts (t ▸ ts) σ τ = push-lifts ts (cons t σ) (lift τ) ∙ ap (push ts) (lift-cons σ τ t)

pub lifts-shift : (n : ℕ) (σ : ℕ → Term) (i : ℕ) → lifts n σ (shift n i) ≡ sub (λ j. var (shift n j)) (σ i)
lifts-shift zero σ i = sym (sub-id (σ i))
lifts-shift (suc n) σ i =
    ap (λ k. lifts n (lift σ) k) (shift-suc n i) ∙ lifts-shift n (lift σ) (suc i)
    ∙ sub-ren (σ i) (λ j. var (shift n j)) suc ∙ sub-along _ _ (σ i) (λ j. ap var (sym (shift-suc n j)))

pub subs-size : (ts : Terms) (ns : List ℕ) (σ : ℕ → Term) → size (subs ns σ ts) ≡ size ts
subs-size ε ns σ = refl
subs-size (t ▸ ts) ns σ = ap suc (subs-size ts (rest ns) σ)

pub subs-append : (ts ss : Terms) (σ : ℕ → Term) → subs [] σ (ts +++ ss) ≡ subs [] σ ts +++ subs [] σ ss
subs-append ε ss σ = refl
subs-append (t ▸ ts) ss σ = ap (λ rs. sub σ t ▸ rs) (subs-append ts ss σ)

pub push-shift : (ts : Terms) (σ : ℕ → Term) (i : ℕ) → push ts σ (shift (size ts) i) ≡ σ i
push-shift ε σ i = refl
push-shift (t ▸ ts) σ i = ap (push ts (cons t σ)) (shift-suc (size ts) i) ∙ push-shift ts (cons t σ) (suc i)

pub fill-sub : (σ : ℕ → Term) (fs : Terms) (n : ℕ) (b : Term) → size fs ≡ n →
    sub σ (sub (push fs var) b) ≡ sub (push (subs [] σ fs) var) (sub (lifts n σ) b)
fill-sub σ fs n b e =
    sub-sub σ (push fs var) b ∙ ap (λ f. sub f b) (push-then_sub fs σ var)
    ∙ sym (ap (λ f. sub f b) (ap (push gs) (fun_ext λ i. sub-id (σ i))))
    ∙ sym (ap (λ f. sub f b) (push-lifts gs var σ))
    ∙ sym (sub-sub (push gs var) (lifts (size gs) σ) b)
    ∙ ap (λ k. sub (push gs var) (sub (lifts k σ) b)) (subs-size fs [] σ ∙ e)
  where
    gs : Terms
    gs = subs [] σ fs
