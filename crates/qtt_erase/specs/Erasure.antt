-- Erasure. Arguments and fields at 0, parameters, type arguments, domains and motives go. A Lam at 0 is a Thunk
-- and its App a Force, so that what stands in a body is evaluated no earlier. Each type is Ty, and so is a
-- variable bound at 0. A Delete is a Case with one branch.
use Rattle.std.specs.Prelude.{ℕ, zero, suc, List, [], ◌∷◌, Option, Some, None}
use Rattle.qtt_usage.specs.declared.mult.Mult.{Mult}
use Rattle.qtt_usage.specs.Mult.{𝟘, 𝟙, ω}
use Rattle.qtt_term.specs.Term.{Named, Form, Term, Terms, var, node, ε, ◌▸◌}
use Rattle.qtt_term.specs.Signature.{Constructor, Env, family_at, definition_at, signature}
use Rattle.qtt_term.specs.Value.{mults, field_mults}
use Rattle.qtt_erase.specs.Binding.{Tree, ∅, ◌◂◌}
use Rattle.qtt_erase.specs.Operator.{Operator, Ty}
use Rattle.qtt_erase.specs.Step.{Bodies}
use Rattle.qtt_erase.specs.Lean.{Abstraction, Lean, Leans}

-- ---- what a binder of a term is in its erasure: none, a binder that nothing mentions, or a binder.
-- A field that is not at 0 is there also where its Case is at 0, and is then bound at 0
pub data Slot : Type 0 where
  gone blank filled : Slot

abbrev pub argument_slot : Mult → Slot
argument_slot 𝟘 = Slot.gone
argument_slot 𝟙 = Slot.filled
argument_slot ω = Slot.filled

-- a field of this multiplicity, of a Case at the first
abbrev pub field_slot : Mult → Mult → Slot
field_slot q 𝟘 = Slot.gone
field_slot 𝟘 𝟙 = Slot.blank
field_slot 𝟘 ω = Slot.blank
field_slot 𝟙 𝟙 = Slot.filled
field_slot 𝟙 ω = Slot.filled
field_slot ω 𝟙 = Slot.filled
field_slot ω ω = Slot.filled

-- of so many fields; what has no multiplicity counts as a field at 0
abbrev pub field_slots : Mult → List Mult → ℕ → List Slot
field_slots q ms zero = []
field_slots q [] (suc n) = Slot.gone ∷ field_slots q [] n
field_slots q (m ∷ ms) (suc n) = field_slot q m ∷ field_slots q ms n

-- a binder's place in the erasure
abbrev pub counted : Slot → ℕ → ℕ
counted Slot.gone n = n
counted Slot.blank n = suc n
counted Slot.filled n = suc n

abbrev pub places : List Slot → ℕ
places [] = 0
places (s ∷ ss) = counted s (places ss)

-- ---- the context: a slot for each variable, the newest first
abbrev pub Slots : Type 0
Slots = List Slot

-- with further binders, the outermost first
abbrev pub extend : Slots → List Slot → Slots
extend Γ [] = Γ
extend Γ (s ∷ ss) = extend (s ∷ Γ) ss

abbrev pub slot_at : Slots → ℕ → Slot
slot_at [] i = Slot.gone
slot_at (s ∷ Γ) zero = s
slot_at (s ∷ Γ) (suc i) = slot_at Γ i

-- how many of the newer variables have a place
abbrev pub place_at : Slots → ℕ → ℕ
place_at [] i = 0
place_at (s ∷ Γ) zero = 0
place_at (s ∷ Γ) (suc i) = counted s (place_at Γ i)

abbrev pub variable : Slot → ℕ → Lean
variable Slot.gone n = Ty
variable Slot.blank n = Ty
variable Slot.filled n = Tree.var n

-- ---- what becomes of each component: it goes, or it stays under binders
abbrev pub Fate : Type 0
Fate = Option (List Slot)

abbrev pub argument : Mult → Fate
argument 𝟘 = None
argument 𝟙 = Some []
argument ω = Some []

abbrev pub arguments : List Mult → List Fate
arguments [] = []
arguments (m ∷ ms) = argument m ∷ arguments ms

-- so many that go first
abbrev pub without : ℕ → List Fate → List Fate
without zero fs = fs
without (suc k) fs = None ∷ without k fs

-- branches under the fields of these constructors, and then the scrutinee
abbrev pub branches : Mult → List Constructor → List ℕ → List Fate
branches q cs [] = Some [] ∷ []
branches q [] (n ∷ ns) = Some (field_slots q [] n) ∷ branches q [] ns
branches q (c ∷ cs) (n ∷ ns) = Some (field_slots q (mults c.fields) n) ∷ branches q cs ns

-- all past the end go
abbrev pub fates : Env → Form → List Fate
fates E (Form.lam q) = None ∷ Some (argument_slot q ∷ []) ∷ []
fates E (Form.app q) = Some [] ∷ argument q ∷ []
fates E (Form.con f c k) = without k (arguments (field_mults (family_at E f).constructors c))
fates E (Form.case q f k m ns) = without k (None ∷ branches q (family_at E f).constructors ns)
fates E (Form.delete q) = without 3 (Some [] ∷ Some [] ∷ [])
fates E (Form.named (Named.prim p)) = arguments (mults (signature E (Named.prim p)).arguments)
fates E (Form.named (Named.act a k)) = arguments (mults (signature E (Named.act a k)).arguments)
fates E _ = []

-- ---- the operator that is left
abbrev pub lam_operator : Mult → Operator Abstraction
lam_operator 𝟘 = Operator.function Abstraction.thunk
lam_operator 𝟙 = Operator.function Abstraction.fun
lam_operator ω = Operator.function Abstraction.fun

abbrev pub app_operator : Mult → Operator Abstraction
app_operator 𝟘 = Operator.force
app_operator 𝟙 = Operator.app
app_operator ω = Operator.app

-- how many binders each branch keeps
abbrev pub kept_binders : Mult → List Constructor → List ℕ → List ℕ
kept_binders q cs [] = []
kept_binders q [] (n ∷ ns) = places (field_slots q [] n) ∷ kept_binders q [] ns
kept_binders q (c ∷ cs) (n ∷ ns) = places (field_slots q (mults c.fields) n) ∷ kept_binders q cs ns

abbrev pub operator : Env → Form → Operator Abstraction
operator E (Form.lam q) = lam_operator q
operator E (Form.app q) = app_operator q
operator E (Form.con f c k) = Operator.con c
operator E (Form.case q f k m ns) = Operator.case (kept_binders q (family_at E f).constructors ns)
operator E (Form.delete q) = Operator.case (0 ∷ [])
operator E (Form.named (Named.def d)) = Operator.def d
operator E (Form.named (Named.lit l)) = Operator.lit l
operator E (Form.named (Named.prim_ty p)) = Operator.ty
operator E (Form.named (Named.prim p)) = Operator.prim p
operator E (Form.named (Named.act a k)) = Operator.act a
operator E Form.trap = Operator.trap
operator E (Form.tape n) = Operator.tape n
operator E (Form.sort l) = Operator.ty
operator E (Form.pi q) = Operator.ty
operator E (Form.fam f) = Operator.ty

-- ---- the erasure of a term in a context
abbrev mutual
  pub erase : Env → Slots → Term → Lean
  erase E Γ (var i) = variable (slot_at Γ i) (place_at Γ i)
  erase E Γ (node F ts) = Tree.node (operator E F) (erases E Γ (fates E F) ts)

  pub erases : Env → Slots → List Fate → Terms → Leans
  erases E Γ fs ε = ∅
  erases E Γ [] (t ▸ ts) = ∅
  erases E Γ (None ∷ fs) (t ▸ ts) = erases E Γ fs ts
  erases E Γ (Some ss ∷ fs) (t ▸ ts) = erase E (extend Γ ss) t ◂ erases E Γ fs ts

-- ---- the erased bodies of the definitions that are not 0
abbrev pub erased_body : Env → Mult → Option Term → Option Lean
erased_body E 𝟘 b = None
erased_body E 𝟙 None = None
erased_body E 𝟙 (Some b) = Some (erase E [] b)
erased_body E ω None = None
erased_body E ω (Some b) = Some (erase E [] b)

abbrev pub erased_bodies : Env → Bodies Abstraction
erased_bodies E d = erased_body E (definition_at E d).mult (definition_at E d).body
