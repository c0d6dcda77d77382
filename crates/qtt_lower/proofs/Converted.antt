-- What closure conversion gives is lowered: its terms are lowerable.
use Rattle.std.proofs.Common.{◌≡◌, ℕ, zero, suc, ◌+◌, ◌<◌, List, [], ◌∷◌, ◌++◌, Bool, true, false, cond, refl, ◌∙◌, ap, subst, arith}
use Rattle.std.proofs.lemmas.Bool.{eq-eqb}
use Rattle.qtt_term.specs.Term.{first, rest}
use Rattle.qtt_erase.specs.Binding.{Tree, ∅, ◌◂◌}
use Rattle.qtt_erase.specs.Operator.{Operator}
use Rattle.qtt_erase.specs.Lean.{Abstraction, Lean, Leans}
use Rattle.qtt_erase.specs.Lean as lean
use Rattle.qtt_erase.specs.Erasure.{Slot, Slots, slot_at, place_at, places}
use Rattle.qtt_erase.specs.ErasedUse.{IsFilled}
use Rattle.qtt_closure.specs.Flat.{FlatTerms, Function}
use Rattle.qtt_closure.specs.Conversion.{mentions, after, afters, skip, waiting, arity, bound, captures, captured, other, flat, flats, first_or_type, own_function, functions, evaluated_functions, waiting_functions}
use Rattle.qtt_closure.specs.StandsFor.{IsOther, OneBody, Formed, AllFormed}
use Rattle.qtt_closure.proofs.Starting.{Scoped, AllScoped, scoped-first, scoped-rest, captured-mentioned, place-below}
use Rattle.qtt_lower.specs.Lowerable.{AreVariables, IsNone, Lowerable, AllLowerable}
use Rattle.qtt_lower.specs.Source.{IsPlainOperator, IsPlain, ArePlain}

-- ---- places
places-bound : (k : ℕ) (Γ : Slots) → places (bound k Γ) ≡ k + places Γ
places-bound zero Γ = omega arith
places-bound (suc k) Γ = let h = places-bound k (Slot.filled ∷ Γ) in omega (arith, h)

-- ---- captured variables are in the surrounding frame
abbrev AreCaptured : ℕ → FlatTerms → Type 0
AreCaptured d vs = AreVariables vs × AllLowerable [] d vs

first-captured : (d : ℕ) (b : Bool) (Δ : Slots) (place : ℕ → ℕ) (vs : FlatTerms) → (b ≡ true → place 0 < d) →
    ((ws : FlatTerms) → AreCaptured d ws → AreCaptured d (captured Δ (λ i. place (suc i)) ws)) → AreCaptured d vs →
    AreCaptured d (captured (cond b Slot.filled Slot.gone ∷ Δ) place vs)
first-captured d true Δ place vs h k a = let p = h refl in k (Tree.var (place 0) ◂ vs) (a.0, (omega (arith, p), a.1))
first-captured d false Δ place vs h k a = k vs a

captured-lowerable : (d j : ℕ) (t : Lean) (Γ : Slots) (place : ℕ → ℕ) (vs : FlatTerms) →
    ((i : ℕ) → mentions (i + j) t ≡ true → IsFilled (slot_at Γ i) → place i < d) →
    ((i : ℕ) → mentions (i + j) t ≡ true → IsFilled (slot_at Γ i)) → AreCaptured d vs →
    AreCaptured d (captured (captures j t Γ) place vs)
captured-lowerable d j t [] place vs h s a = a
captured-lowerable d j t (x ∷ Γ) place vs h s a =
    first-captured d (mentions j t) (captures (suc j) t Γ) place vs
    (λ e. let m = ap (λ n. mentions n t) (let z : 0 + j ≡ j = omega arith in z) ∙ e in h 0 m (s 0 m))
    (λ ws. captured-lowerable d (suc j) t Γ (λ i. place (suc i)) ws
    (λ i e. h (suc i) (ap (λ n. mentions n t) (let z : suc i + j ≡ i + suc j = omega arith in z) ∙ e))
    (λ i e. s (suc i) (ap (λ n. mentions n t) (let z : suc i + j ≡ i + suc j = omega arith in z) ∙ e)))
    a

-- ---- terms
none-left : (n m k : ℕ) (ns : List ℕ) (Γ : Slots) (ts : Leans) → IsNone ts → IsNone (flats n m k ns Γ ts)
none-left n m zero ns Γ ∅ h = tt
none-left n m (suc k) ns Γ ∅ h = tt
none-left n m k ns Γ (t ◂ ts) h = absurd h

other-lowerable : (F : Operator Abstraction) → IsOther F → (d : ℕ) (ts : Leans) (us : FlatTerms) →
    IsPlainOperator F ts → (IsNone ts → IsNone us) →
    AllLowerable (lean.binders F) d us → Lowerable d (Tree.node (other F) us)
other-lowerable (Operator.function a) o d ts us p h l = absurd o
other-lowerable Operator.app o d ts us p h l = (tt, l)
other-lowerable Operator.force o d ts us p h l = (tt, l)
other-lowerable (Operator.def i) o d ts us p h l = (h p, l)
other-lowerable (Operator.con c) o d ts us p h l = (tt, l)
other-lowerable (Operator.case ns) o d ts us p h l = (tt, l)
other-lowerable (Operator.lit i) o d ts us p h l = (h p, l)
other-lowerable (Operator.prim i) o d ts us p h l = (tt, l)
other-lowerable (Operator.act a) o d ts us p h l = (tt, l)
other-lowerable Operator.trap o d ts us p h l = (h p, l)
other-lowerable Operator.ty o d ts us p h l = (h p, l)
other-lowerable (Operator.tape n) o d ts us p h l = absurd p

mutual
  pub flat-lowerable : (t : Lean) (n : ℕ) (Γ : Slots) → Formed t → IsPlain t → Scoped Γ t →
      Lowerable (places Γ) (flat n Γ t)
  flat-lowerable (Tree.var i) n Γ f p s = place-below Γ i (s i (eq-eqb i i refl))
  flat-lowerable (Tree.node (Operator.function a) ts) n Γ f p s =
      let t : Lean = Tree.node (Operator.function a) ts in
      let c = captured-lowerable (places Γ) 0 t Γ (place_at Γ) ∅ (λ i e u. place-below Γ i u)
      (λ i e. s i (ap (λ n. mentions n t) (let z : i ≡ i + 0 = omega arith in z) ∙ e)) (tt, tt) in
      ((refl, c.0), c.1)
  flat-lowerable (Tree.node F ts) n Γ f p s =
      other-lowerable F tt (places Γ) ts
      (flats n (afters n (skip (waiting F) ts)) (waiting F) (lean.binders F) Γ ts) p.0
      (none-left n (afters n (skip (waiting F) ts)) (waiting F) (lean.binders F) Γ ts)
      (flats-lowerable ts n (afters n (skip (waiting F) ts)) (waiting F) (lean.binders F) Γ f.1 p.1 s)

  flats-lowerable : (ts : Leans) (n m k : ℕ) (ns : List ℕ) (Γ : Slots) → AllFormed ts → ArePlain ts →
      AllScoped Γ ns ts →
      AllLowerable ns (places Γ) (flats n m k ns Γ ts)
  flats-lowerable ∅ n m zero ns Γ f p s = tt
  flats-lowerable ∅ n m (suc k) ns Γ f p s = tt
  flats-lowerable (t ◂ ts) n m zero ns Γ f p s = (
    subst (λ d. Lowerable d (flat n (bound (first ns) Γ) t)) (places-bound (first ns) Γ)
        (flat-lowerable t n (bound (first ns) Γ) f.0 p.0 (scoped-first Γ ns t ts s)),
    flats-lowerable ts (after n t) m zero (rest ns) Γ f.1 p.1 (scoped-rest Γ ns t ts s),
  )
  flats-lowerable (t ◂ ts) n m (suc k) ns Γ f p s = (
    subst (λ d. Lowerable d (flat m (bound (first ns) Γ) t)) (places-bound (first ns) Γ)
        (flat-lowerable t m (bound (first ns) Γ) f.0 p.0 (scoped-first Γ ns t ts s)),
    flats-lowerable ts n (after m t) k (rest ns) Γ f.1 p.1 (scoped-rest Γ ns t ts s),
  )

-- ---- functions
abbrev pub AreLowerable : List Function → Type 0
AreLowerable [] = Unit {0}
AreLowerable (F ∷ Fs) = Lowerable (F.captured + F.takes) F.body × AreLowerable Fs

all-append : (Fs Gs : List Function) → AreLowerable Fs → AreLowerable Gs → AreLowerable (Fs ++ Gs)
all-append [] Gs h g = g
all-append (F ∷ Fs) Gs h g = (h.0, all-append Fs Gs h.1 g)

body-lowerable : (a : Abstraction) (ts : Leans) (d n m : ℕ) (Δ : Slots) → OneBody (Operator.function a) ts →
    AllLowerable (lean.body_binders a) d (flats n m 1 (lean.body_binders a) Δ ts) →
    Lowerable (d + arity a) (first_or_type (flats n m 1 (lean.body_binders a) Δ ts))
body-lowerable a ∅ d n m Δ o l = absurd o
body-lowerable a (b ◂ c ◂ ts) d n m Δ o l = absurd o
body-lowerable Abstraction.fun (b ◂ ∅) d n m Δ o l =
    subst (λ k. Lowerable k (flat m (bound 1 Δ) b)) (let z : 1 + d ≡ d + 1 = omega arith in z) l.0
body-lowerable Abstraction.thunk (b ◂ ∅) d n m Δ o l =
    subst (λ k. Lowerable k (flat m (bound 0 Δ) b)) (let z : 0 + d ≡ d + 0 = omega arith in z) l.0

mutual
  pub functions-lowerable : (t : Lean) (n : ℕ) (Γ : Slots) → Formed t → IsPlain t → Scoped Γ t →
      AreLowerable (functions n Γ t)
  functions-lowerable (Tree.var i) n Γ f p s = tt
  functions-lowerable (Tree.node (Operator.function a) ts) n Γ f p s =
      let t : Lean = Tree.node (Operator.function a) ts in
      let Δ : Slots = captures 0 t Γ in
      let c = captured-mentioned t Γ s in
      let own : List Function =
      own_function (Operator.function a) t Γ (flats (suc n) (suc n) 1 (lean.body_binders a) Δ ts) in
      let evaluated : List Function = evaluated_functions (suc n) 1 (lean.body_binders a) Δ ts in
      all-append (own ++ evaluated) (waiting_functions (afters (suc n) (skip 1 ts)) 1 (lean.body_binders a) Δ ts)
      (all-append own evaluated (
        body-lowerable a ts (places Δ) (suc n) (suc n) Δ f.0
            (flats-lowerable ts (suc n) (suc n) 1 (lean.body_binders a) Δ f.1 p.1 c),
        tt,
      )
      (evaluated-lowerable ts (suc n) 1 (lean.body_binders a) Δ f.1 p.1 c))
      (waiting-lowerable ts (afters (suc n) (skip 1 ts)) 1 (lean.body_binders a) Δ f.1 p.1 c)
  functions-lowerable (Tree.node F ts) n Γ f p s =
      all-append (evaluated_functions n (waiting F) (lean.binders F) Γ ts)
      (waiting_functions (afters n (skip (waiting F) ts)) (waiting F) (lean.binders F) Γ ts)
      (evaluated-lowerable ts n (waiting F) (lean.binders F) Γ f.1 p.1 s)
      (waiting-lowerable ts (afters n (skip (waiting F) ts)) (waiting F) (lean.binders F) Γ f.1 p.1 s)

  evaluated-lowerable : (ts : Leans) (n k : ℕ) (ns : List ℕ) (Γ : Slots) → AllFormed ts → ArePlain ts →
      AllScoped Γ ns ts →
      AreLowerable (evaluated_functions n k ns Γ ts)
  evaluated-lowerable ∅ n zero ns Γ f p s = tt
  evaluated-lowerable ∅ n (suc k) ns Γ f p s = tt
  evaluated-lowerable (t ◂ ts) n zero ns Γ f p s =
      all-append (functions n (bound (first ns) Γ) t) (evaluated_functions (after n t) zero (rest ns) Γ ts)
      (functions-lowerable t n (bound (first ns) Γ) f.0 p.0 (scoped-first Γ ns t ts s))
      (evaluated-lowerable ts (after n t) zero (rest ns) Γ f.1 p.1 (scoped-rest Γ ns t ts s))
  evaluated-lowerable (t ◂ ts) n (suc k) ns Γ f p s =
      evaluated-lowerable ts n k (rest ns) Γ f.1 p.1 (scoped-rest Γ ns t ts s)

  waiting-lowerable : (ts : Leans) (m k : ℕ) (ns : List ℕ) (Γ : Slots) → AllFormed ts → ArePlain ts →
      AllScoped Γ ns ts →
      AreLowerable (waiting_functions m k ns Γ ts)
  waiting-lowerable ∅ m zero ns Γ f p s = tt
  waiting-lowerable ∅ m (suc k) ns Γ f p s = tt
  waiting-lowerable (t ◂ ts) m zero ns Γ f p s = tt
  waiting-lowerable (t ◂ ts) m (suc k) ns Γ f p s =
      all-append (functions m (bound (first ns) Γ) t) (waiting_functions (after m t) k (rest ns) Γ ts)
      (functions-lowerable t m (bound (first ns) Γ) f.0 p.0 (scoped-first Γ ns t ts s))
      (waiting-lowerable ts (after m t) k (rest ns) Γ f.1 p.1 (scoped-rest Γ ns t ts s))
