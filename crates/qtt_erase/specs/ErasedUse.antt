-- No erased use: outside parts at 0 a term mentions no variable that is bound at 0 and no 0 definition.
use Rattle.std.specs.Prelude.{◌≡◌, List, [], ◌∷◌, Some, None}
use Rattle.qtt_base.specs.declared.place.GlobalId.{GlobalId}
use Rattle.qtt_term.specs.Term.{Named, Form, Term, Terms, var, node, ε, ◌▸◌}
use Rattle.qtt_term.specs.Signature.{Env, definition_at, eq_id, eq_family}
use Rattle.qtt_term.specs.Judgement.{Part, Usable}
use Rattle.qtt_erase.specs.Erasure.{Slot, Slots, extend, slot_at, Fate, fates}

abbrev pub IsFilled : Slot → Type 0
IsFilled Slot.gone = ⊥
IsFilled Slot.blank = ⊥
IsFilled Slot.filled = Unit {0}

abbrev pub NamesNoZero : Env → Form → Type 0
NamesNoZero E (Form.named (Named.def d)) = Usable Part.run (definition_at E d).mult
NamesNoZero E _ = Unit {0}

abbrev mutual
  pub NoErasedUse : Env → Slots → Term → Type 0
  NoErasedUse E Γ (var i) = IsFilled (slot_at Γ i)
  NoErasedUse E Γ (node F ts) = NamesNoZero E F × NoErasedUses E Γ (fates E F) ts

  pub NoErasedUses : Env → Slots → List Fate → Terms → Type 0
  NoErasedUses E Γ fs ε = Unit {0}
  NoErasedUses E Γ [] (t ▸ ts) = Unit {0}
  NoErasedUses E Γ (None ∷ fs) (t ▸ ts) = NoErasedUses E Γ fs ts
  NoErasedUses E Γ (Some ss ∷ fs) (t ▸ ts) = NoErasedUse E (extend Γ ss) t × NoErasedUses E Γ fs ts

-- an environment whose equality is Prim's, and in which no body of a definition that is not 0 has an erased use
pub record Erasable (E : Env) : Type 0 where
  pub equality : E.family eq_id ≡ Some eq_family
  pub bodies : (d : GlobalId) (b : Term) → Usable Part.run (definition_at E d).mult →
      (definition_at E d).body ≡ Some b → NoErasedUse E [] b
