-- A converted term stands for its term.
use Rattle.std.proofs.Common.{◌≡◌, ℕ, zero, suc, ◌+◌, ◌<◌, List, [], ◌∷◌, ◌++◌, Bool, true, false, ◌||◌, cond, Some, refl, sym, ◌∙◌, ap, subst, arith, ◌⊎◌, inl, inr}
use mathlib.Core.Path.{fun_ext, ap₂}
use Rattle.std.proofs.lemmas.Bool.{eq-eqb, eqb-true}
use Rattle.qtt_term.specs.Term.{first, rest}
use Rattle.qtt_term.specs.Substitution.{shift, lift_ren, lifts_ren}
use Rattle.qtt_erase.specs.Binding.{Tree, ∅, ◌◂◌, ◌◂◂◌, size, push, ren, rens, lift, lifts, sub, subs, Below, AllBelow}
use Rattle.qtt_erase.specs.Operator.{Operator, Codes}
use Rattle.qtt_erase.specs.Lean.{Abstraction, Lean, Leans}
use Rattle.qtt_erase.specs.Lean as lean
use Rattle.qtt_erase.specs.Erasure.{Slot, Slots, slot_at, place_at, places}
use Rattle.qtt_erase.specs.ErasedUse.{IsFilled}
use Rattle.qtt_erase.proofs.Bindings.{ren-is-sub, sub-ren, sub-var, push-append}
use Rattle.qtt_closure.specs.Flat.{Closure, FlatTerm, FlatTerms, Function, Program}
use Rattle.qtt_closure.specs.Conversion.{mentions, any_mentions, after, afters, skip, waiting, arity, bound, captures, captured, flat, flats, functions, evaluated_functions, waiting_functions}
use Rattle.qtt_closure.specs.StandsFor.{function_of, StandsFor, AllStandFor, Formed, AllFormed, Holds, IsHeld}

-- ---- numbers
abbrev pub advance : ℕ → List Function → ℕ
advance n [] = n
advance n (F ∷ Fs) = advance (suc n) Fs

advance-append : (n : ℕ) (Fs Gs : List Function) → advance n (Fs ++ Gs) ≡ advance (advance n Fs) Gs
advance-append n [] Gs = refl
advance-append n (F ∷ Fs) Gs = advance-append (suc n) Fs Gs

holds-append : (P : Program) (n : ℕ) (Fs Gs : List Function) → Holds P n (Fs ++ Gs) →
    Holds P n Fs × Holds P (advance n Fs) Gs
holds-append P n [] Gs h = (tt, h)
holds-append P n (F ∷ Fs) Gs h = let p = holds-append P (suc n) Fs Gs h.1 in ((h.0, p.0), p.1)

mutual
  pub after-from : (t : Lean) (n : ℕ) → after n t ≡ n + after 0 t
  after-from (Tree.var i) n = omega arith
  after-from (Tree.node (Operator.function a) ts) n = let h = afters-from ts (suc n) in let k =
      afters-from ts 1 in omega (arith, h, k)
  after-from (Tree.node F ts) n = afters-from ts n

  afters-from : (ts : Leans) (n : ℕ) → afters n ts ≡ n + afters 0 ts
  afters-from ∅ n = omega arith
  afters-from (t ◂ ts) n =
      let h = after-from t n in let k = afters-from ts (after n t) in let l =
      afters-from ts (after 0 t) in omega (arith, h, k, l)

-- behind the functions of the first k components, where theirs begin with m
abbrev waited : ℕ → ℕ → Leans → ℕ
waited m zero ts = m
waited m (suc k) ∅ = m
waited m (suc k) (t ◂ ts) = waited (after m t) k ts

waited-all : (ts : Leans) (m k : ℕ) → waited m k ts + afters 0 (skip k ts) ≡ m + afters 0 ts
waited-all ts m zero = refl
waited-all ∅ m (suc k) = refl
waited-all (t ◂ ts) m (suc k) =
    let h = waited-all ts (after m t) k in let k = after-from t m in let l =
    afters-from ts (after 0 t) in omega (arith, h, k, l)

-- first the functions of the evaluated components, then those of the components that wait
both-after : (ts : Leans) (n k : ℕ) (ns : List ℕ) (Γ : Slots) →
    advance n (evaluated_functions n k ns Γ ts) ≡ afters n (skip k ts) →
    advance (afters n (skip k ts)) (waiting_functions (afters n (skip k ts)) k ns Γ ts) ≡ waited
    (afters n (skip k ts)) k ts →
    advance n (evaluated_functions n k ns Γ ts ++ waiting_functions (afters n (skip k ts)) k ns Γ ts) ≡ afters n ts
both-after ts n k ns Γ h g =
    advance-append n (evaluated_functions n k ns Γ ts) _
    ∙ ap (λ m. advance m (waiting_functions (afters n (skip k ts)) k ns Γ ts)) h ∙ g
    ∙ (let w = waited-all ts (afters n (skip k ts)) k in let p = afters-from (skip k ts) n in
    let q = afters-from ts n in omega (arith, w, p, q))

mutual
  pub number-after : (t : Lean) (n : ℕ) (Γ : Slots) → advance n (functions n Γ t) ≡ after n t
  number-after (Tree.var i) n Γ = refl
  number-after (Tree.node (Operator.function a) ts) n Γ =
      let Δ : Slots = captures 0 (Tree.node (Operator.function a) ts) Γ in
      both-after ts (suc n) 1 (lean.body_binders a) Δ (evaluated-after ts (suc n) 1 (lean.body_binders a) Δ)
      (waiting-after ts (afters (suc n) (skip 1 ts)) 1 (lean.body_binders a) Δ)
  number-after (Tree.node F ts) n Γ =
      both-after ts n (waiting F) (lean.binders F) Γ (evaluated-after ts n (waiting F) (lean.binders F) Γ)
      (waiting-after ts (afters n (skip (waiting F) ts)) (waiting F) (lean.binders F) Γ)

  evaluated-after : (ts : Leans) (n k : ℕ) (ns : List ℕ) (Γ : Slots) →
      advance n (evaluated_functions n k ns Γ ts) ≡ afters n (skip k ts)
  evaluated-after ∅ n zero ns Γ = refl
  evaluated-after ∅ n (suc k) ns Γ = refl
  evaluated-after (t ◂ ts) n zero ns Γ =
      advance-append n (functions n (bound (first ns) Γ) t) _
      ∙ ap (λ m. advance m (evaluated_functions (after n t) zero (rest ns) Γ ts))
      (number-after t n (bound (first ns) Γ))
      ∙ evaluated-after ts (after n t) zero (rest ns) Γ
  evaluated-after (t ◂ ts) n (suc k) ns Γ = evaluated-after ts n k (rest ns) Γ

  waiting-after : (ts : Leans) (m k : ℕ) (ns : List ℕ) (Γ : Slots) →
      advance m (waiting_functions m k ns Γ ts) ≡ waited m k ts
  waiting-after ∅ m zero ns Γ = refl
  waiting-after ∅ m (suc k) ns Γ = refl
  waiting-after (t ◂ ts) m zero ns Γ = refl
  waiting-after (t ◂ ts) m (suc k) ns Γ =
      advance-append m (functions m (bound (first ns) Γ) t) _
      ∙ ap (λ n. advance n (waiting_functions (after m t) k (rest ns) Γ ts)) (number-after t m (bound (first ns) Γ))
      ∙ waiting-after ts (after m t) k (rest ns) Γ

held-after : (P : Program) (t : Lean) (n : ℕ) (Γ : Slots) (Gs : List Function) → Holds P n (functions n Γ t ++ Gs) →
    Holds P n (functions n Γ t) × Holds P (after n t) Gs
held-after P t n Γ Gs h =
    let p = holds-append P n (functions n Γ t) Gs h in
    (p.0, subst (λ m. Holds P m Gs) (number-after t n Γ) p.1)

held-evaluated : (P : Program) (ts : Leans) (n k : ℕ) (ns : List ℕ) (Γ : Slots) (Gs : List Function) →
    Holds P n (evaluated_functions n k ns Γ ts ++ Gs) →
    Holds P n (evaluated_functions n k ns Γ ts) × Holds P (afters n (skip k ts)) Gs
held-evaluated P ts n k ns Γ Gs h =
    let p = holds-append P n (evaluated_functions n k ns Γ ts) Gs h in
    (p.0, subst (λ m. Holds P m Gs) (evaluated-after ts n k ns Γ) p.1)

-- ---- what is mentioned
or-left : (a b : Bool) → a ≡ true → (a || b) ≡ true
or-left true b e = refl
or-left false b e = absurd (cc e)

or-right : (a b : Bool) → b ≡ true → (a || b) ≡ true
or-right true b e = refl
or-right false b e = e

or-either : (a b : Bool) → (a || b) ≡ true → (a ≡ true) ⊎ (b ≡ true)
or-either true b e = inl refl
or-either false b e = inr e

pub shifted : (k i : ℕ) → shift k i ≡ k + i
shifted zero i = omega arith
shifted (suc k) i = let p = shifted k i in omega arith

pub shift-suc : (n i : ℕ) → shift (suc n) i ≡ shift n (suc i)
shift-suc zero i = refl
shift-suc (suc n) i = ap suc (shift-suc n i)

abbrev pub Mentioned : Lean → ℕ → Type 0
Mentioned t i = mentions i t ≡ true

abbrev pub AnyMentioned : List ℕ → Leans → ℕ → Type 0
AnyMentioned ns ts i = any_mentions ns i ts ≡ true

-- what is mentioned of a frame is in it
abbrev pub Scoped : Slots → Lean → Type 0
Scoped Γ t = (i : ℕ) → Mentioned t i → IsFilled (slot_at Γ i)

abbrev pub AllScoped : Slots → List ℕ → Leans → Type 0
AllScoped Γ ns ts = (i : ℕ) → AnyMentioned ns ts i → IsFilled (slot_at Γ i)

scoped-bound : (k : ℕ) (Γ : Slots) (t : Lean) → ((i : ℕ) → Mentioned t (shift k i) → IsFilled (slot_at Γ i)) →
    Scoped (bound k Γ) t
scoped-bound zero Γ t h = h
scoped-bound (suc k) Γ t h = scoped-bound k (Slot.filled ∷ Γ) t go
  where
    go : (i : ℕ) → Mentioned t (shift k i) → IsFilled (slot_at (Slot.filled ∷ Γ) i)
    go zero e = tt
    go (suc i) e = h i (ap (λ j. mentions j t) (shift-suc k i) ∙ e)

pub scoped-first : (Γ : Slots) (ns : List ℕ) (t : Lean) (ts : Leans) → AllScoped Γ ns (t ◂ ts) →
    Scoped (bound (first ns) Γ) t
scoped-first Γ ns t ts h =
    scoped-bound (first ns) Γ t
    (λ i e. h i (or-left (mentions (shift (first ns) i) t) (any_mentions (rest ns) i ts) e))

pub scoped-rest : (Γ : Slots) (ns : List ℕ) (t : Lean) (ts : Leans) → AllScoped Γ ns (t ◂ ts) → AllScoped Γ (rest ns) ts
scoped-rest Γ ns t ts h i e = h i (or-right (mentions (shift (first ns) i) t) (any_mentions (rest ns) i ts) e)

captured-slot : (j : ℕ) (t : Lean) (Γ : Slots) (i : ℕ) → Mentioned t (shift i j) → IsFilled (slot_at Γ i) →
    IsFilled (slot_at (captures j t Γ) i)
captured-slot j t [] i e u = absurd u
captured-slot j t (s ∷ Γ) zero e u = subst (λ b. IsFilled (cond b Slot.filled Slot.gone)) (sym e) tt
captured-slot j t (s ∷ Γ) (suc i) e u = captured-slot (suc j) t Γ i (ap (λ k. mentions k t) (sym (shift-suc i j)) ∙ e) u

shift-none : (i : ℕ) → shift i 0 ≡ i
shift-none zero = refl
shift-none (suc i) = ap suc (shift-none i)

-- what is mentioned and in the surrounding frame is captured
pub captured-mentioned : (t : Lean) (Γ : Slots) → Scoped Γ t → Scoped (captures 0 t Γ) t
captured-mentioned t Γ h i e = captured-slot 0 t Γ i (ap (λ j. mentions j t) (shift-none i) ∙ e) (h i e)

-- ---- substitutions that agree at what is mentioned
lifts-mentioned : (k : ℕ) (t : Lean) (σ τ : ℕ → Lean) → ((i : ℕ) → Mentioned t (shift k i) → σ i ≡ τ i) →
    (i : ℕ) → Mentioned t i → lifts lean.binders k σ i ≡ lifts lean.binders k τ i
lifts-mentioned zero t σ τ h = h
lifts-mentioned (suc k) t σ τ h = lifts-mentioned k t (lift lean.binders σ) (lift lean.binders τ) go
  where
    go : (i : ℕ) → Mentioned t (shift k i) → lift lean.binders σ i ≡ lift lean.binders τ i
    go zero e = refl
    go (suc i) e = ap (ren lean.binders suc) (h i (ap (λ j. mentions j t) (shift-suc k i) ∙ e))

mutual
  sub-mentioned : (t : Lean) (σ τ : ℕ → Lean) → ((i : ℕ) → Mentioned t i → σ i ≡ τ i) →
      sub lean.binders σ t ≡ sub lean.binders τ t
  sub-mentioned (Tree.var i) σ τ h = h i (eq-eqb i i refl)
  sub-mentioned (Tree.node F ts) σ τ h = ap (Tree.node F) (subs-mentioned ts (lean.binders F) σ τ h)

  subs-mentioned : (ts : Leans) (ns : List ℕ) (σ τ : ℕ → Lean) → ((i : ℕ) → AnyMentioned ns ts i → σ i ≡ τ i) →
      subs lean.binders ns σ ts ≡ subs lean.binders ns τ ts
  subs-mentioned ∅ ns σ τ h = refl
  subs-mentioned (t ◂ ts) ns σ τ h =
      ap₂ ◌◂◌
      (sub-mentioned t _ _ (lifts-mentioned (first ns) t σ τ
      (λ i e. h i (or-left (mentions (shift (first ns) i) t) (any_mentions (rest ns) i ts) e))))
      (subs-mentioned ts (rest ns) σ τ
      (λ i e. h i (or-right (mentions (shift (first ns) i) t) (any_mentions (rest ns) i ts) e)))

-- ---- renamings that stay below n at what is mentioned
renamed-bound : (k : ℕ) (t : Lean) (ρ : ℕ → ℕ) (n : ℕ) → ((i : ℕ) → Mentioned t (shift k i) → ρ i < n) →
    (i : ℕ) → Mentioned t i → lifts_ren k ρ i < k + n
renamed-bound zero t ρ n h i e = let p = h i e in omega arith
renamed-bound (suc k) t ρ n h i e = let p = renamed-bound k t (lift_ren ρ) (suc n) go i e in omega arith
  where
    go : (i : ℕ) → Mentioned t (shift k i) → lift_ren ρ i < suc n
    go zero e = omega arith
    go (suc i) e = let p = h i (ap (λ j. mentions j t) (shift-suc k i) ∙ e) in omega arith

mutual
  ren-below : (t : Lean) (ρ : ℕ → ℕ) (n : ℕ) → ((i : ℕ) → Mentioned t i → ρ i < n) →
      Below lean.binders n (ren lean.binders ρ t)
  ren-below (Tree.var i) ρ n h = h i (eq-eqb i i refl)
  ren-below (Tree.node F ts) ρ n h = rens-below ts (lean.binders F) ρ n h

  rens-below : (ts : Leans) (ns : List ℕ) (ρ : ℕ → ℕ) (n : ℕ) → ((i : ℕ) → AnyMentioned ns ts i → ρ i < n) →
      AllBelow lean.binders ns n (rens lean.binders ns ρ ts)
  rens-below ∅ ns ρ n h = tt
  rens-below (t ◂ ts) ns ρ n h = (
    ren-below t (lifts_ren (first ns) ρ) (first ns + n)
        (renamed-bound (first ns) t ρ n
        (λ i e. h i (or-left (mentions (shift (first ns) i) t) (any_mentions (rest ns) i ts) e))),
    rens-below ts (rest ns) ρ n
        (λ i e. h i (or-right (mentions (shift (first ns) i) t) (any_mentions (rest ns) i ts) e)),
  )

-- what is mentioned of a term with all variables below n is below n
mutual
  pub mentioned-below : (t : Lean) (n i : ℕ) → Below lean.binders n t → Mentioned t i → i < n
  mentioned-below (Tree.var j) n i b e = let p = eqb-true i j e in subst (λ k. k < n) (sym p) b
  mentioned-below (Tree.node F ts) n i b e = any-below ts (lean.binders F) n i b e

  any-below : (ts : Leans) (ns : List ℕ) (n i : ℕ) → AllBelow lean.binders ns n ts → AnyMentioned ns ts i → i < n
  any-below ∅ ns n i b e = absurd (cc e)
  any-below (t ◂ ts) ns n i b e =
      elim (or-either (mentions (shift (first ns) i) t) (any_mentions (rest ns) i ts) e) [
        | inl p ↦ let q = mentioned-below t (first ns + n) (shift (first ns) i) b.0 p in let r =
            shifted (first ns) i in omega (arith, q, r)
        | inr p ↦ any-below ts (rest ns) n i b.1 p
      ]

-- ---- places
place-bound : (k : ℕ) (Γ : Slots) → place_at (bound k Γ) ≡ lifts_ren k (place_at Γ)
place-bound zero Γ = refl
place-bound (suc k) Γ = place-bound k (Slot.filled ∷ Γ) ∙ ap (lifts_ren k) (fun_ext go)
  where
    go : (i : ℕ) → place_at (Slot.filled ∷ Γ) i ≡ lift_ren (place_at Γ) i
    go zero = refl
    go (suc i) = refl

pub place-below : (Δ : Slots) (i : ℕ) → IsFilled (slot_at Δ i) → place_at Δ i < places Δ
place-below [] i u = absurd u
place-below (Slot.gone ∷ Δ) zero u = absurd u
place-below (Slot.blank ∷ Δ) zero u = absurd u
place-below (Slot.filled ∷ Δ) zero u = omega arith
place-below (Slot.gone ∷ Δ) (suc i) u = place-below Δ i u
place-below (Slot.blank ∷ Δ) (suc i) u = let p = place-below Δ i u in omega arith
place-below (Slot.filled ∷ Δ) (suc i) u = let p = place-below Δ i u in omega arith

module _ {A : Type 0} where
  one-moved : (us : Codes A) (v : Tree (Operator A)) (vs : Codes A) → us ◂◂ (v ◂ vs) ≡ (us ◂◂ (v ◂ ∅)) ◂◂ vs
  one-moved ∅ v vs = refl
  one-moved (u ◂ us) v vs = ap (λ ws. u ◂ ws) (one-moved us v vs)

  pub captured-append : (Δ : Slots) (place : ℕ → ℕ) (vs : Codes A) → captured Δ place vs ≡ captured Δ place ∅ ◂◂ vs
  captured-append [] place vs = refl
  captured-append (Slot.gone ∷ Δ) place vs = captured-append Δ (λ i. place (suc i)) vs
  captured-append (Slot.blank ∷ Δ) place vs =
      captured-append Δ (λ i. place (suc i)) (Tree.var (place 0) ◂ vs) ∙
      one-moved (captured Δ (λ i. place (suc i)) ∅) (Tree.var (place 0)) vs
      ∙ ap (λ us. us ◂◂ vs) (sym (captured-append Δ (λ i. place (suc i)) (Tree.var (place 0) ◂ ∅)))
  captured-append (Slot.filled ∷ Δ) place vs =
      captured-append Δ (λ i. place (suc i)) (Tree.var (place 0) ◂ vs) ∙
      one-moved (captured Δ (λ i. place (suc i)) ∅) (Tree.var (place 0)) vs
      ∙ ap (λ us. us ◂◂ vs) (sym (captured-append Δ (λ i. place (suc i)) (Tree.var (place 0) ◂ ∅)))

  -- pushed, the captured variables stand where their frame has them
  captured-pushed : (Δ : Slots) (place : ℕ → ℕ) (σ : ℕ → Tree (Operator A)) (i : ℕ) → IsFilled (slot_at Δ i) →
      push (captured Δ place ∅) σ (place_at Δ i) ≡ Tree.var (place i)
  captured-pushed [] place σ i u = absurd u
  captured-pushed (Slot.gone ∷ Δ) place σ zero u = absurd u
  captured-pushed (Slot.gone ∷ Δ) place σ (suc i) u = captured-pushed Δ (λ j. place (suc j)) σ i u
  captured-pushed (Slot.blank ∷ Δ) place σ zero u = absurd u
  captured-pushed (Slot.blank ∷ Δ) place σ (suc i) u =
      ap (λ vs. push vs σ (suc (place_at Δ i))) (captured-append Δ (λ j. place (suc j)) (Tree.var (place 0) ◂ ∅))
      ∙ ap (λ τ. τ (suc (place_at Δ i))) (push-append (captured Δ (λ j. place (suc j)) ∅) (Tree.var (place 0) ◂ ∅) σ)
      ∙ captured-pushed Δ (λ j. place (suc j)) σ i u
  captured-pushed (Slot.filled ∷ Δ) place σ zero u =
      ap (λ vs. push vs σ 0) (captured-append Δ (λ j. place (suc j)) (Tree.var (place 0) ◂ ∅))
      ∙ ap (λ τ. τ 0) (push-append (captured Δ (λ j. place (suc j)) ∅) (Tree.var (place 0) ◂ ∅) σ)
  captured-pushed (Slot.filled ∷ Δ) place σ (suc i) u =
      ap (λ vs. push vs σ (suc (place_at Δ i))) (captured-append Δ (λ j. place (suc j)) (Tree.var (place 0) ◂ ∅))
      ∙ ap (λ τ. τ (suc (place_at Δ i))) (push-append (captured Δ (λ j. place (suc j)) ∅) (Tree.var (place 0) ◂ ∅) σ)
      ∙ captured-pushed Δ (λ j. place (suc j)) σ i u

  captured-size : (Δ : Slots) (place : ℕ → ℕ) (vs : Codes A) → size (captured Δ place vs) ≡ places Δ + size vs
  captured-size [] place vs = omega arith
  captured-size (Slot.gone ∷ Δ) place vs = captured-size Δ (λ i. place (suc i)) vs
  captured-size (Slot.blank ∷ Δ) place vs = let p =
      captured-size Δ (λ i. place (suc i)) (Tree.var (place 0) ◂ vs) in omega arith
  captured-size (Slot.filled ∷ Δ) place vs = let p =
      captured-size Δ (λ i. place (suc i)) (Tree.var (place 0) ◂ vs) in omega arith

pub captured-places : (A : Type 0) (Δ : Slots) (place : ℕ → ℕ) → size (captured {A = A} Δ place ∅) ≡ places Δ
captured-places A Δ place = let p = captured-size {A = A} Δ place ∅ in omega arith

-- ---- a converted term
module _ (P : Program) where
  captured-stand : (Δ : Slots) (place : ℕ → ℕ) (ts : Leans) (us : FlatTerms) → AllStandFor P ts us →
      AllStandFor P (captured Δ place ts) (captured Δ place us)
  captured-stand [] place ts us h = h
  captured-stand (Slot.gone ∷ Δ) place ts us h = captured-stand Δ _ ts us h
  captured-stand (Slot.blank ∷ Δ) place ts us h = captured-stand Δ _ _ _ (AllStandFor.more StandsFor.variable h)
  captured-stand (Slot.filled ∷ Δ) place ts us h = captured-stand Δ _ _ _ (AllStandFor.more StandsFor.variable h)

  -- a term is its renaming into the frame of what it mentions, with the captured variables put in
  recovered : (t : Lean) (Γ : Slots) → Scoped Γ t →
      ren lean.binders (place_at Γ) t
      ≡ sub lean.binders (push (captured (captures 0 t Γ) (place_at Γ) ∅) Tree.var)
      (ren lean.binders (place_at (captures 0 t Γ)) t)
  recovered t Γ h =
      ren-is-sub lean.binders (place_at Γ) t
      ∙ sym (sub-ren lean.binders t (push (captured (captures 0 t Γ) (place_at Γ) ∅) Tree.var)
      (place_at (captures 0 t Γ))
      ∙ sub-mentioned t _ _ (λ i e. captured-pushed (captures 0 t Γ) (place_at Γ) Tree.var i
      (captured-mentioned t Γ h i e)))

  captured-below : (t : Lean) (Γ : Slots) → Scoped Γ t →
      Below lean.binders (size (captured {A = Abstraction} (captures 0 t Γ) (place_at Γ) ∅))
      (ren lean.binders (place_at (captures 0 t Γ)) t)
  captured-below t Γ h =
      ren-below t (place_at (captures 0 t Γ)) _
      (λ i e. subst (λ n. place_at (captures 0 t Γ) i < n)
      (sym (captured-places Abstraction (captures 0 t Γ) (place_at Γ)))
      (place-below (captures 0 t Γ) i (captured-mentioned t Γ h i e)))

  -- a function of a body that stands for its converted body
  function-stands : (a : Abstraction) (b : Lean) (n : ℕ) (Γ : Slots) (u : FlatTerm) → Scoped Γ (function_of a b) →
      P n ≡ Some (record { captured = places (captures 0 (function_of a b) Γ); takes = arity a; body = u }) →
      StandsFor P (ren lean.binders (lifts_ren (arity a) (place_at (captures 0 (function_of a b) Γ))) b) u →
      StandsFor P (ren lean.binders (place_at Γ) (function_of a b)) (flat n Γ (function_of a b))
  function-stands Abstraction.fun b n Γ u h p s =
      let Δ : Slots = captures 0 (function_of Abstraction.fun b) Γ in
      StandsFor.closure p (captured-places Closure Δ (place_at Γ) ∙
      sym (captured-places Abstraction Δ (place_at Γ))) (sym (captured-places Abstraction Δ (place_at Γ)))
      refl s
      (captured-below (function_of Abstraction.fun b) Γ h) (captured-stand Δ (place_at Γ) ∅ ∅ AllStandFor.none)
      (recovered (function_of Abstraction.fun b) Γ h)
  function-stands Abstraction.thunk b n Γ u h p s =
      let Δ : Slots = captures 0 (function_of Abstraction.thunk b) Γ in
      StandsFor.closure p (captured-places Closure Δ (place_at Γ) ∙
      sym (captured-places Abstraction Δ (place_at Γ))) (sym (captured-places Abstraction Δ (place_at Γ)))
      refl s
      (captured-below (function_of Abstraction.thunk b) Γ h) (captured-stand Δ (place_at Γ) ∅ ∅ AllStandFor.none)
      (recovered (function_of Abstraction.thunk b) Γ h)

  -- a body in the frame of its function
  in-frame : (k : ℕ) (Δ : Slots) (b : Lean) (u : FlatTerm) → StandsFor P (ren lean.binders (place_at (bound k Δ)) b) u →
      StandsFor P (ren lean.binders (lifts_ren k (place_at Δ)) b) u
  in-frame k Δ b u s = subst (λ ρ. StandsFor P (ren lean.binders ρ b) u) (place-bound k Δ) s

  nothing-waits : (ts : Leans) (m : ℕ) (ns : List ℕ) (Γ : Slots) → Holds P m (waiting_functions m zero ns Γ ts)
  nothing-waits ∅ m ns Γ = tt
  nothing-waits (t ◂ ts) m ns Γ = tt

  mutual
    converted-stands : (t : Lean) (n : ℕ) (Γ : Slots) → Formed t → Scoped Γ t → Holds P n (functions n Γ t) →
        StandsFor P (ren lean.binders (place_at Γ) t) (flat n Γ t)
    converted-stands (Tree.var i) n Γ f s h = StandsFor.variable
    converted-stands (Tree.node (Operator.function a) ∅) n Γ f s h = absurd f.0
    converted-stands (Tree.node (Operator.function a) (b ◂ c ◂ ts)) n Γ f s h = absurd f.0
    converted-stands (Tree.node (Operator.function Abstraction.fun) (b ◂ ∅)) n Γ f s h =
        let t : Lean = function_of Abstraction.fun b in
        let Δ : Slots = captures 0 t Γ in
        function-stands Abstraction.fun b n Γ (flat (suc n) (bound 1 Δ) b) s h.0
        (in-frame 1 Δ b _ (converted-stands b (suc n) (bound 1 Δ) f.1.0
        (scoped-first Δ (1 ∷ []) b ∅ (captured-mentioned t Γ s))
        (held-after P b (suc n) (bound 1 Δ) [] h.1).0))
    converted-stands (Tree.node (Operator.function Abstraction.thunk) (b ◂ ∅)) n Γ f s h =
        let t : Lean = function_of Abstraction.thunk b in
        let Δ : Slots = captures 0 t Γ in
        function-stands Abstraction.thunk b n Γ (flat (suc n) (bound 0 Δ) b) s h.0
        (in-frame 0 Δ b _ (converted-stands b (suc n) (bound 0 Δ) f.1.0
        (scoped-first Δ (0 ∷ []) b ∅ (captured-mentioned t Γ s))
        (held-after P b (suc n) (bound 0 Δ) [] h.1).0))
    converted-stands (Tree.node F ts) n Γ f s h =
        let k = held-evaluated P ts n (waiting F) (lean.binders F) Γ
        (waiting_functions (afters n (skip (waiting F) ts)) (waiting F) (lean.binders F) Γ ts) h in
        StandsFor.operator tt (components-stand ts n (afters n (skip (waiting F) ts)) (waiting F)
        (lean.binders F) Γ f.1 s k.0 k.1)

    components-stand : (ts : Leans) (n m k : ℕ) (ns : List ℕ) (Γ : Slots) → AllFormed ts → AllScoped Γ ns ts →
        Holds P n (evaluated_functions n k ns Γ ts) → Holds P m (waiting_functions m k ns Γ ts) →
        AllStandFor P (rens lean.binders ns (place_at Γ) ts) (flats n m k ns Γ ts)
    components-stand ∅ n m k ns Γ f s h g = AllStandFor.none
    components-stand (t ◂ ts) n m zero ns Γ f s h g =
        let p = held-after P t n (bound (first ns) Γ) (evaluated_functions (after n t) zero (rest ns) Γ ts) h in
        AllStandFor.more (in-frame (first ns) Γ t _
        (converted-stands t n (bound (first ns) Γ) f.0 (scoped-first Γ ns t ts s) p.0))
        (components-stand ts (after n t) m zero (rest ns) Γ f.1 (scoped-rest Γ ns t ts s) p.1
        (nothing-waits ts m (rest ns) Γ))
    components-stand (t ◂ ts) n m (suc k) ns Γ f s h g =
        let p = held-after P t m (bound (first ns) Γ) (waiting_functions (after m t) k (rest ns) Γ ts) g in
        AllStandFor.more (in-frame (first ns) Γ t _
        (converted-stands t m (bound (first ns) Γ) f.0 (scoped-first Γ ns t ts s) p.0))
        (components-stand ts n (after m t) k (rest ns) Γ f.1 (scoped-rest Γ ns t ts s) h p.1)

  pub stands-for-its-term : (n : ℕ) (t : Lean) → IsHeld P n t → StandsFor P t (flat n [] t)
  stands-for-its-term n t h =
      subst (λ x. StandsFor P x (flat n [] t)) unmoved (converted-stands t n [] h.formed scoped h.held)
    where
      scoped : Scoped [] t
      scoped i e = let p = mentioned-below t 0 i h.closed e in absurd (omega arith)

      unmoved : ren lean.binders (place_at []) t ≡ t
      unmoved = ren-is-sub lean.binders (place_at []) t ∙ sub-mentioned t _ Tree.var
          (λ i e. absurd (scoped i e)) ∙ sub-var lean.binders t
