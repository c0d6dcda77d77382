-- What erasure gives is lowered.
use Rattle.std.proofs.Common.{◌≡◌, ℕ, ◌+◌, List, [], ◌∷◌, Option, Some, None, refl, sym, ◌∙◌, ap, subst, arith}
use Rattle.qtt_base.specs.declared.place.GlobalId.{GlobalId}
use Rattle.qtt_usage.specs.declared.mult.Mult.{Mult}
use Rattle.qtt_usage.specs.Mult.{𝟘, 𝟙, ω}
use Rattle.qtt_term.specs.Term.{Named, Form, Term, Terms, var, node, ε, ◌▸◌, binders, rest}
use Rattle.qtt_term.specs.Signature.{Env, definition_at}
use Rattle.qtt_term.specs.Judgement.{Part, Usable}
use Rattle.qtt_erase.specs.Binding.{Below, AllBelow}
use Rattle.qtt_erase.specs.Lean as lean
use Rattle.qtt_erase.specs.Lean.{Lean}
use Rattle.qtt_erase.specs.Erasure.{Slot, Slots, places, extend, slot_at, place_at, variable, Fate, fates, operator, erase, erases, erased_body, erased_bodies}
use Rattle.qtt_erase.specs.ErasedUse.{IsFilled}
use Rattle.qtt_erase.proofs.Places.{Fitting, fates-fit}
use Rattle.qtt_closure.specs.StandsFor.{OneBody, Formed, AllFormed}
use Rattle.qtt_closure.proofs.Starting.{place-below}
use Rattle.qtt_lower.specs.Lowerable.{IsNone}
use Rattle.qtt_lower.specs.Source.{IsPlainOperator, IsPlain, ArePlain, IsSource, IsWholeForm, IsWhole, AreWhole, HasWholeBodies}
use Rattle.qtt_lower.specs.Programs.{Body, with_body, bodies}
use Rattle.qtt_lower.specs.Laws.{AreSources}

places-extend : (Γ : Slots) (ss : List Slot) → places (extend Γ ss) ≡ places ss + places Γ
places-extend Γ [] = omega arith
places-extend Γ (Slot.gone ∷ ss) = places-extend (Slot.gone ∷ Γ) ss
places-extend Γ (Slot.blank ∷ ss) = let h = places-extend (Slot.blank ∷ Γ) ss in omega (arith, h)
places-extend Γ (Slot.filled ∷ ss) = let h = places-extend (Slot.filled ∷ Γ) ss in omega (arith, h)

-- ---- no variable is free
variable-below : (Γ : Slots) (i : ℕ) (s : Slot) → slot_at Γ i ≡ s →
    Below lean.binders (places Γ) (variable s (place_at Γ i))
variable-below Γ i Slot.gone h = tt
variable-below Γ i Slot.blank h = tt
variable-below Γ i Slot.filled h = place-below Γ i (subst IsFilled (sym h) tt)

mutual
  erase-below : (E : Env) (t : Term) (Γ : Slots) → Below lean.binders (places Γ) (erase E Γ t)
  erase-below E (var i) Γ = variable-below Γ i (slot_at Γ i) refl
  erase-below E (node F ts) Γ =
      erases-below E ts (fates E F) (binders F) (lean.binders (operator E F)) Γ (fates-fit E F)

  erases-below : (E : Env) (ts : Terms) (fs : List Fate) (ns ks : List ℕ) (Γ : Slots) → Fitting ns fs ks →
      AllBelow lean.binders ks (places Γ) (erases E Γ fs ts)
  erases-below E ε fs ns ks Γ h = tt
  erases-below E (t ▸ ts) [] ns ks Γ h = tt
  erases-below E (t ▸ ts) (None ∷ fs) ns ks Γ h = erases-below E ts fs (rest ns) ks Γ h
  erases-below E (t ▸ ts) (Some ss ∷ fs) ns ks Γ h = (
    subst (λ n. Below lean.binders n (erase E (extend Γ ss) t)) (places-extend Γ ss ∙ ap (λ n. n + places Γ) h.1)
        (erase-below E t (extend Γ ss)),
    erases-below E ts fs (rest ns) (rest ks) Γ h.2,
  )

-- ---- each operator has its components
nothing-left : (E : Env) (Γ : Slots) (ts : Terms) → IsNone (erases E Γ [] ts)
nothing-left E Γ ε = tt
nothing-left E Γ (t ▸ ts) = tt

one-left : (E : Env) (Γ : Slots) (ss : List Slot) (ts : Terms) (a : lean.Abstraction) → IsWholeForm (Form.lam 𝟘) ts →
    OneBody (Rattle.qtt_erase.specs.Operator.Operator.function a) (erases E Γ (None ∷ Some ss ∷ []) ts)
one-left E Γ ss ε a h = absurd h
one-left E Γ ss (A ▸ ε) a h = absurd h
one-left E Γ ss (A ▸ b ▸ ε) a h = tt
one-left E Γ ss (A ▸ b ▸ c ▸ ts) a h = tt

abbrev HasParts : Env → Slots → Form → Terms → Type 0
HasParts E Γ F ts = OneBody (operator E F) (erases E Γ (fates E F) ts) × IsPlainOperator (operator E F)
    (erases E Γ (fates E F) ts)

parts-left : (E : Env) (Γ : Slots) (F : Form) (ts : Terms) → IsWholeForm F ts → HasParts E Γ F ts
parts-left E Γ (Form.lam 𝟘) ts h = (one-left E Γ _ ts lean.Abstraction.thunk h, tt)
parts-left E Γ (Form.lam 𝟙) ts h = (one-left E Γ _ ts lean.Abstraction.fun h, tt)
parts-left E Γ (Form.lam ω) ts h = (one-left E Γ _ ts lean.Abstraction.fun h, tt)
parts-left E Γ (Form.app 𝟘) ts h = (tt, tt)
parts-left E Γ (Form.app 𝟙) ts h = (tt, tt)
parts-left E Γ (Form.app ω) ts h = (tt, tt)
parts-left E Γ (Form.con f c k) ts h = (tt, tt)
parts-left E Γ (Form.case q f k m ns) ts h = (tt, tt)
parts-left E Γ (Form.delete q) ts h = (tt, tt)
parts-left E Γ (Form.named (Named.def d)) ts h = (tt, nothing-left E Γ ts)
parts-left E Γ (Form.named (Named.lit l)) ts h = (tt, nothing-left E Γ ts)
parts-left E Γ (Form.named (Named.prim_ty p)) ts h = (tt, nothing-left E Γ ts)
parts-left E Γ (Form.named (Named.prim p)) ts h = (tt, tt)
parts-left E Γ (Form.named (Named.act a k)) ts h = (tt, tt)
parts-left E Γ Form.trap ts h = (tt, nothing-left E Γ ts)
parts-left E Γ (Form.tape n) ts h = absurd h
parts-left E Γ (Form.sort l) ts h = (tt, nothing-left E Γ ts)
parts-left E Γ (Form.pi q) ts h = (tt, nothing-left E Γ ts)
parts-left E Γ (Form.fam f) ts h = (tt, nothing-left E Γ ts)

variable-parts : (s : Slot) (n : ℕ) → Formed (variable s n) × IsPlain (variable s n)
variable-parts Slot.gone n = ((tt, tt), (tt, tt))
variable-parts Slot.blank n = ((tt, tt), (tt, tt))
variable-parts Slot.filled n = (tt, tt)

mutual
  erase-whole : (E : Env) (t : Term) (Γ : Slots) → IsWhole E t → Formed (erase E Γ t) × IsPlain (erase E Γ t)
  erase-whole E (var i) Γ h = variable-parts (slot_at Γ i) (place_at Γ i)
  erase-whole E (node F ts) Γ h =
      let p = parts-left E Γ F ts h.0 in
      let q = erases-whole E ts (fates E F) Γ h.1 in
      ((p.0, q.0), (p.1, q.1))

  erases-whole : (E : Env) (ts : Terms) (fs : List Fate) (Γ : Slots) → AreWhole E fs ts →
      AllFormed (erases E Γ fs ts) × ArePlain (erases E Γ fs ts)
  erases-whole E ε fs Γ h = (tt, tt)
  erases-whole E (t ▸ ts) [] Γ h = (tt, tt)
  erases-whole E (t ▸ ts) (None ∷ fs) Γ h = erases-whole E ts fs Γ h
  erases-whole E (t ▸ ts) (Some ss ∷ fs) Γ h =
      let p = erase-whole E t (extend Γ ss) h.0 in
      let q = erases-whole E ts fs Γ h.1 in
      ((p.0, q.0), (p.1, q.1))

erased-source : (E : Env) (t : Term) → IsWhole E t → IsSource (erase E [] t)
erased-source E t h = let p = erase-whole E t [] h in record { closed = erase-below E t []; formed = p.0; plain = p.1 }

-- ---- the bodies of an environment
abbrev IsErasedSource : Option Lean → Type 0
IsErasedSource None = Unit {0}
IsErasedSource (Some t) = IsSource t

body-source : (E : Env) (q : Mult) (o : Option Term) →
    ((b : Term) → Usable Part.run q → o ≡ Some b → IsWhole E b) → IsErasedSource (erased_body E q o)
body-source E 𝟘 o h = tt
body-source E 𝟙 None h = tt
body-source E ω None h = tt
body-source E 𝟙 (Some b) h = erased-source E b (h b tt refl)
body-source E ω (Some b) h = erased-source E b (h b tt refl)

one-more : (d : GlobalId) (o : Option Lean) (bs : List Body) → IsErasedSource o → AreSources bs →
    AreSources (with_body d o bs)
one-more d None bs h g = g
one-more d (Some t) bs h g = (h, g)

pub bodies-are-sources : (E : Env) → HasWholeBodies E → (ds : List GlobalId) → AreSources (bodies E ds)
bodies-are-sources E h [] = tt
bodies-are-sources E h (d ∷ ds) =
    one-more d (erased_bodies E d) (bodies E ds)
    (body-source E (definition_at E d).mult (definition_at E d).body (h d)) (bodies-are-sources E h ds)
