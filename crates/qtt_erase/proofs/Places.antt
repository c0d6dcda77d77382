-- Erasure commutes with renaming and with substitution, for terms without erased uses.
use Rattle.std.proofs.Common.{◌≡◌, ℕ, zero, suc, List, [], ◌∷◌, length, Some, None, refl, sym, ◌∙◌, ap, subst}
use mathlib.Core.Path.{ap₂}
use Rattle.qtt_usage.specs.declared.mult.Mult.{Mult}
use Rattle.qtt_usage.specs.Mult.{𝟘, 𝟙, ω}
use Rattle.qtt_term.specs.Term.{Named, Form, Term, Terms, var, node, ε, ◌▸◌, binders, first, rest, zeros}
use Rattle.qtt_term.specs.Substitution.{ren, rens, lift_ren, lifts_ren, sub, subs, lift, lifts}
use Rattle.qtt_term.specs.Signature.{Constructor, Env, family_at, signature}
use Rattle.qtt_term.specs.Value.{mults, field_mults}
use Rattle.qtt_erase.specs.Lean as lean
use Rattle.qtt_erase.specs.Lean.{Lean}
use Rattle.qtt_erase.specs.Binding as small
use Rattle.qtt_erase.specs.Binding.{Tree, ◌◂◌}
use Rattle.qtt_erase.specs.Erasure.{Slot, field_slots, counted, places, Slots, extend, slot_at, place_at, variable, Fate, arguments, without, branches, fates, kept_binders, operator, erase, erases}
use Rattle.qtt_erase.proofs.Bindings.{ren-id}
use Rattle.qtt_erase.specs.ErasedUse.{IsFilled, NoErasedUse, NoErasedUses}

-- ---- the binders of what is left are the places of the slots
-- fates, with how many binders each component stands under before and after
abbrev pub Fitting : List ℕ → List Fate → List ℕ → Type 0
Fitting ns [] ks = Unit {0}
Fitting ns (None ∷ fs) ks = Fitting (rest ns) fs ks
Fitting ns (Some ss ∷ fs) ks = (length ss ≡ first ns) × (places ss ≡ first ks) × Fitting (rest ns) fs (rest ks)

arguments-fit : (ms : List Mult) → Fitting [] (arguments ms) []
arguments-fit [] = tt
arguments-fit (𝟘 ∷ ms) = arguments-fit ms
arguments-fit (𝟙 ∷ ms) = (refl, refl, arguments-fit ms)
arguments-fit (ω ∷ ms) = (refl, refl, arguments-fit ms)

without-none : (k : ℕ) (fs : List Fate) → Fitting [] fs [] → Fitting [] (without k fs) []
without-none zero fs h = h
without-none (suc k) fs h = without-none k fs h

without-zeros : (k : ℕ) (ns : List ℕ) (fs : List Fate) (ks : List ℕ) → Fitting ns fs ks →
    Fitting (zeros k ns) (without k fs) ks
without-zeros zero ns fs ks h = h
without-zeros (suc k) ns fs ks h = without-zeros k ns fs ks h

slots-length : (q : Mult) (ms : List Mult) (n : ℕ) → length (field_slots q ms n) ≡ n
slots-length q ms zero = refl
slots-length q [] (suc n) = ap suc (slots-length q [] n)
slots-length q (m ∷ ms) (suc n) = ap suc (slots-length q ms n)

branches-fit : (q : Mult) (cs : List Constructor) (ns : List ℕ) → Fitting ns (branches q cs ns) (kept_binders q cs ns)
branches-fit q cs [] = (refl, refl, tt)
branches-fit q [] (n ∷ ns) = (slots-length q [] n, refl, branches-fit q [] ns)
branches-fit q (c ∷ cs) (n ∷ ns) = (slots-length q (mults c.fields) n, refl, branches-fit q cs ns)

pub fates-fit : (E : Env) (F : Form) → Fitting (binders F) (fates E F) (lean.binders (operator E F))
fates-fit E (Form.lam 𝟘) = (refl, refl, tt)
fates-fit E (Form.lam 𝟙) = (refl, refl, tt)
fates-fit E (Form.lam ω) = (refl, refl, tt)
fates-fit E (Form.app 𝟘) = (refl, refl, tt)
fates-fit E (Form.app 𝟙) = (refl, refl, (refl, refl, tt))
fates-fit E (Form.app ω) = (refl, refl, (refl, refl, tt))
fates-fit E (Form.con f c k) = without-none k _ (arguments-fit (field_mults (family_at E f).constructors c))
fates-fit E (Form.case q f k m ns) = without-zeros k (m ∷ ns) _ _ (branches-fit q (family_at E f).constructors ns)
fates-fit E (Form.delete q) = (refl, refl, (refl, refl, tt))
fates-fit E (Form.named (Named.prim p)) = arguments-fit (mults (signature E (Named.prim p)).arguments)
fates-fit E (Form.named (Named.act a k)) = arguments-fit (mults (signature E (Named.act a k)).arguments)
fates-fit E (Form.named (Named.def d)) = tt
fates-fit E (Form.named (Named.lit l)) = tt
fates-fit E (Form.named (Named.prim_ty p)) = tt
fates-fit E (Form.sort l) = tt
fates-fit E (Form.pi q) = tt
fates-fit E (Form.fam f) = tt
fates-fit E Form.trap = tt
fates-fit E (Form.tape n) = tt

-- ---- renaming
-- ρ takes what may be used of Γ to what may be used of Δ, and π takes its place there
pub record Renames (Γ Δ : Slots) (ρ π : ℕ → ℕ) : Type 0 where
  pub filled : (i : ℕ) → IsFilled (slot_at Γ i) → IsFilled (slot_at Δ (ρ i))
  pub placed : (i : ℕ) → IsFilled (slot_at Γ i) → place_at Δ (ρ i) ≡ π (place_at Γ i)

-- a renaming of places under a slot
abbrev pub under : Slot → (ℕ → ℕ) → ℕ → ℕ
under Slot.gone π = π
under Slot.blank π = lift_ren π
under Slot.filled π = lift_ren π

renames-lift : (s : Slot) (Γ Δ : Slots) (ρ π : ℕ → ℕ) → Renames Γ Δ ρ π →
    Renames (s ∷ Γ) (s ∷ Δ) (lift_ren ρ) (under s π)
renames-lift s Γ Δ ρ π h = record { filled = full; placed = at s }
  where
    full : (i : ℕ) → IsFilled (slot_at (s ∷ Γ) i) → IsFilled (slot_at (s ∷ Δ) (lift_ren ρ i))
    full zero u = u
    full (suc i) u = h.filled i u

    at : (s : Slot) (i : ℕ) → IsFilled (slot_at (s ∷ Γ) i) →
        place_at (s ∷ Δ) (lift_ren ρ i) ≡ under s π (place_at (s ∷ Γ) i)
    at Slot.gone zero u = absurd u
    at Slot.blank zero u = absurd u
    at Slot.filled zero u = refl
    at Slot.gone (suc i) u = h.placed i u
    at Slot.blank (suc i) u = ap suc (h.placed i u)
    at Slot.filled (suc i) u = ap suc (h.placed i u)

renames-extend : (ss : List Slot) (Γ Δ : Slots) (ρ π : ℕ → ℕ) → Renames Γ Δ ρ π →
    Renames (extend Γ ss) (extend Δ ss) (lifts_ren (length ss) ρ) (lifts_ren (places ss) π)
renames-extend [] Γ Δ ρ π h = h
renames-extend (Slot.gone ∷ ss) Γ Δ ρ π h = renames-extend ss _ _ _ _ (renames-lift Slot.gone Γ Δ ρ π h)
renames-extend (Slot.blank ∷ ss) Γ Δ ρ π h = renames-extend ss _ _ _ _ (renames-lift Slot.blank Γ Δ ρ π h)
renames-extend (Slot.filled ∷ ss) Γ Δ ρ π h = renames-extend ss _ _ _ _ (renames-lift Slot.filled Γ Δ ρ π h)

variable-renamed : (s t : Slot) (π : ℕ → ℕ) (n m : ℕ) → IsFilled s → IsFilled t → m ≡ π n →
    variable t m ≡ small.ren lean.binders π (variable s n)
variable-renamed Slot.filled Slot.filled π n m u v e = ap Tree.var e
variable-renamed Slot.gone t π n m u v e = absurd u
variable-renamed Slot.blank t π n m u v e = absurd u
variable-renamed Slot.filled Slot.gone π n m u v e = absurd v
variable-renamed Slot.filled Slot.blank π n m u v e = absurd v

module _ (E : Env) where
  mutual
    pub erase-ren : (t : Term) (Γ Δ : Slots) (ρ π : ℕ → ℕ) → Renames Γ Δ ρ π → NoErasedUse E Γ t →
        erase E Δ (ren ρ t) ≡ small.ren lean.binders π (erase E Γ t)
    erase-ren (var i) Γ Δ ρ π h u =
        variable-renamed (slot_at Γ i) (slot_at Δ (ρ i)) π (place_at Γ i) (place_at Δ (ρ i)) u (h.filled i u)
        (h.placed i u)
    erase-ren (node F ts) Γ Δ ρ π h u =
        ap (Tree.node (operator E F)) (erases-rens ts _ _ _ Γ Δ ρ π (fates-fit E F) h u.1)

    erases-rens : (ts : Terms) (ns : List ℕ) (fs : List Fate) (ks : List ℕ) (Γ Δ : Slots) (ρ π : ℕ → ℕ) →
        Fitting ns fs ks → Renames Γ Δ ρ π →
        NoErasedUses E Γ fs ts → erases E Δ fs (rens ns ρ ts) ≡ small.rens lean.binders ks π (erases E Γ fs ts)
    erases-rens ε ns fs ks Γ Δ ρ π w h u = refl
    erases-rens (t ▸ ts) ns [] ks Γ Δ ρ π w h u = refl
    erases-rens (t ▸ ts) ns (None ∷ fs) ks Γ Δ ρ π w h u = erases-rens ts (rest ns) fs ks Γ Δ ρ π w h u
    erases-rens (t ▸ ts) ns (Some ss ∷ fs) ks Γ Δ ρ π w h u =
        ap₂ ◌◂◌
        (subst (λ n. erase E (extend Δ ss) (ren (lifts_ren n ρ) t) ≡ small.ren lean.binders
        (lifts_ren (first ks) π) (erase E (extend Γ ss) t)) w.0
        (subst (λ k. erase E (extend Δ ss) (ren (lifts_ren (length ss) ρ) t) ≡ small.ren lean.binders
        (lifts_ren k π) (erase E (extend Γ ss) t)) w.1
        (erase-ren t (extend Γ ss) (extend Δ ss) _ _ (renames-extend ss Γ Δ ρ π h) u.0)))
        (erases-rens ts (rest ns) fs (rest ks) Γ Δ ρ π w.2 h u.1)

  mutual
    pub clean-ren : (t : Term) (Γ Δ : Slots) (ρ π : ℕ → ℕ) → Renames Γ Δ ρ π → NoErasedUse E Γ t →
        NoErasedUse E Δ (ren ρ t)
    clean-ren (var i) Γ Δ ρ π h u = h.filled i u
    clean-ren (node F ts) Γ Δ ρ π h u = (u.0, cleans-rens ts _ _ _ Γ Δ ρ π (fates-fit E F) h u.1)

    cleans-rens : (ts : Terms) (ns : List ℕ) (fs : List Fate) (ks : List ℕ) (Γ Δ : Slots) (ρ π : ℕ → ℕ) →
        Fitting ns fs ks → Renames Γ Δ ρ π →
        NoErasedUses E Γ fs ts → NoErasedUses E Δ fs (rens ns ρ ts)
    cleans-rens ε ns fs ks Γ Δ ρ π w h u = tt
    cleans-rens (t ▸ ts) ns [] ks Γ Δ ρ π w h u = tt
    cleans-rens (t ▸ ts) ns (None ∷ fs) ks Γ Δ ρ π w h u = cleans-rens ts (rest ns) fs ks Γ Δ ρ π w h u
    cleans-rens (t ▸ ts) ns (Some ss ∷ fs) ks Γ Δ ρ π w h u = (
      subst (λ n. NoErasedUse E (extend Δ ss) (ren (lifts_ren n ρ) t)) w.0
          (clean-ren t (extend Γ ss) (extend Δ ss) _ _ (renames-extend ss Γ Δ ρ π h) u.0),
      cleans-rens ts (rest ns) fs (rest ks) Γ Δ ρ π w.2 h u.1,
    )

-- ---- substitution
-- σ gives, for what may be used of Γ, terms without erased uses in Δ, and τ their erasures
pub record Carries (E : Env) (Γ Δ : Slots) (σ : ℕ → Term) (τ : ℕ → Lean) : Type 0 where
  pub clean : (i : ℕ) → IsFilled (slot_at Γ i) → NoErasedUse E Δ (σ i)
  pub erased : (i : ℕ) → IsFilled (slot_at Γ i) → erase E Δ (σ i) ≡ τ (place_at Γ i)

-- a substitution of places under a slot
abbrev pub small_under : Slot → (ℕ → Lean) → ℕ → Lean
small_under Slot.gone τ = τ
small_under Slot.blank τ = small.lift lean.binders τ
small_under Slot.filled τ = small.lift lean.binders τ

abbrev past : Slot → ℕ → ℕ
past s i = counted s i

past-renames : (s : Slot) (Δ : Slots) → Renames Δ (s ∷ Δ) suc (past s)
past-renames s Δ = record { filled = λ i u. u; placed = λ i u. refl }

module _ (E : Env) where
  carries-lift : (s : Slot) (Γ Δ : Slots) (σ : ℕ → Term) (τ : ℕ → Lean) → Carries E Γ Δ σ τ →
      Carries E (s ∷ Γ) (s ∷ Δ) (lift σ) (small_under s τ)
  carries-lift s Γ Δ σ τ h = record { clean = full; erased = at s }
    where
      full : (i : ℕ) → IsFilled (slot_at (s ∷ Γ) i) → NoErasedUse E (s ∷ Δ) (lift σ i)
      full zero u = u
      full (suc i) u = clean-ren E (σ i) Δ (s ∷ Δ) suc (past s) (past-renames s Δ) (h.clean i u)

      renamed : (s : Slot) (i : ℕ) → IsFilled (slot_at Γ i) →
          erase E (s ∷ Δ) (ren suc (σ i)) ≡ small.ren lean.binders (past s) (erase E Δ (σ i))
      renamed s i u = erase-ren E (σ i) Δ (s ∷ Δ) suc (past s) (past-renames s Δ) (h.clean i u)

      at : (s : Slot) (i : ℕ) → IsFilled (slot_at (s ∷ Γ) i) →
          erase E (s ∷ Δ) (lift σ i) ≡ small_under s τ (place_at (s ∷ Γ) i)
      at Slot.gone zero u = absurd u
      at Slot.blank zero u = absurd u
      at Slot.filled zero u = refl
      at Slot.gone (suc i) u = renamed Slot.gone i u ∙ ren-id lean.binders (erase E Δ (σ i)) ∙ h.erased i u
      at Slot.blank (suc i) u = renamed Slot.blank i u ∙ ap (small.ren lean.binders suc) (h.erased i u)
      at Slot.filled (suc i) u = renamed Slot.filled i u ∙ ap (small.ren lean.binders suc) (h.erased i u)

  carries-extend : (ss : List Slot) (Γ Δ : Slots) (σ : ℕ → Term) (τ : ℕ → Lean) → Carries E Γ Δ σ τ →
      Carries E (extend Γ ss) (extend Δ ss) (lifts (length ss) σ) (small.lifts lean.binders (places ss) τ)
  carries-extend [] Γ Δ σ τ h = h
  carries-extend (Slot.gone ∷ ss) Γ Δ σ τ h = carries-extend ss _ _ _ _ (carries-lift Slot.gone Γ Δ σ τ h)
  carries-extend (Slot.blank ∷ ss) Γ Δ σ τ h = carries-extend ss _ _ _ _ (carries-lift Slot.blank Γ Δ σ τ h)
  carries-extend (Slot.filled ∷ ss) Γ Δ σ τ h = carries-extend ss _ _ _ _ (carries-lift Slot.filled Γ Δ σ τ h)

  variable-filled : (s : Slot) (n : ℕ) → IsFilled s → variable s n ≡ Tree.var n
  variable-filled Slot.gone n u = absurd u
  variable-filled Slot.blank n u = absurd u
  variable-filled Slot.filled n u = refl

  mutual
    pub erase-sub : (t : Term) (Γ Δ : Slots) (σ : ℕ → Term) (τ : ℕ → Lean) → Carries E Γ Δ σ τ → NoErasedUse E Γ t →
        erase E Δ (sub σ t) ≡ small.sub lean.binders τ (erase E Γ t)
    erase-sub (var i) Γ Δ σ τ h u =
        h.erased i u ∙ sym (ap (small.sub lean.binders τ) (variable-filled (slot_at Γ i) (place_at Γ i) u))
    erase-sub (node F ts) Γ Δ σ τ h u =
        ap (Tree.node (operator E F)) (erases-subs ts _ _ _ Γ Δ σ τ (fates-fit E F) h u.1)

    erases-subs : (ts : Terms) (ns : List ℕ) (fs : List Fate) (ks : List ℕ) (Γ Δ : Slots) (σ : ℕ → Term)
        (τ : ℕ → Lean) → Fitting ns fs ks →
        Carries E Γ Δ σ τ → NoErasedUses E Γ fs ts →
        erases E Δ fs (subs ns σ ts) ≡ small.subs lean.binders ks τ (erases E Γ fs ts)
    erases-subs ε ns fs ks Γ Δ σ τ w h u = refl
    erases-subs (t ▸ ts) ns [] ks Γ Δ σ τ w h u = refl
    erases-subs (t ▸ ts) ns (None ∷ fs) ks Γ Δ σ τ w h u = erases-subs ts (rest ns) fs ks Γ Δ σ τ w h u
    erases-subs (t ▸ ts) ns (Some ss ∷ fs) ks Γ Δ σ τ w h u =
        ap₂ ◌◂◌
        (subst (λ n. erase E (extend Δ ss) (sub (lifts n σ) t) ≡ small.sub lean.binders
        (small.lifts lean.binders (first ks) τ) (erase E (extend Γ ss) t)) w.0
        (subst (λ k. erase E (extend Δ ss) (sub (lifts (length ss) σ) t) ≡ small.sub lean.binders
        (small.lifts lean.binders k τ) (erase E (extend Γ ss) t)) w.1
        (erase-sub t (extend Γ ss) (extend Δ ss) _ _ (carries-extend ss Γ Δ σ τ h) u.0)))
        (erases-subs ts (rest ns) fs (rest ks) Γ Δ σ τ w.2 h u.1)

  mutual
    pub clean-sub : (t : Term) (Γ Δ : Slots) (σ : ℕ → Term) (τ : ℕ → Lean) → Carries E Γ Δ σ τ →
        NoErasedUse E Γ t → NoErasedUse E Δ (sub σ t)
    clean-sub (var i) Γ Δ σ τ h u = h.clean i u
    clean-sub (node F ts) Γ Δ σ τ h u = (u.0, cleans-subs ts _ _ _ Γ Δ σ τ (fates-fit E F) h u.1)

    cleans-subs : (ts : Terms) (ns : List ℕ) (fs : List Fate) (ks : List ℕ) (Γ Δ : Slots) (σ : ℕ → Term)
        (τ : ℕ → Lean) → Fitting ns fs ks →
        Carries E Γ Δ σ τ → NoErasedUses E Γ fs ts → NoErasedUses E Δ fs (subs ns σ ts)
    cleans-subs ε ns fs ks Γ Δ σ τ w h u = tt
    cleans-subs (t ▸ ts) ns [] ks Γ Δ σ τ w h u = tt
    cleans-subs (t ▸ ts) ns (None ∷ fs) ks Γ Δ σ τ w h u = cleans-subs ts (rest ns) fs ks Γ Δ σ τ w h u
    cleans-subs (t ▸ ts) ns (Some ss ∷ fs) ks Γ Δ σ τ w h u = (
      subst (λ n. NoErasedUse E (extend Δ ss) (sub (lifts n σ) t)) w.0
          (clean-sub t (extend Γ ss) (extend Δ ss) _ _ (carries-extend ss Γ Δ σ τ h) u.0),
      cleans-subs ts (rest ns) fs (rest ks) Γ Δ σ τ w.2 h u.1,
    )
