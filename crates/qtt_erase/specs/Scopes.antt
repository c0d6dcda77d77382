-- What the code's slots and scopes stand for.
use Rattle.std.specs.Prelude.{[], ◌∷◌}
use Rattle.qtt_erase.specs.declared.scope.Slot as code_slot
use Rattle.qtt_erase.specs.declared.scope.Slot.TheVariants as slot_variant
use Rattle.qtt_erase.specs.declared.scope.Scope as code_scope
use Rattle.qtt_erase.specs.declared.scope.Scope.TheVariants.{Empty, Bound'}
use Rattle.qtt_erase.specs.Erasure.{Slot, Slots}

abbrev pub slot : code_slot.Slot → Slot
slot slot_variant.Gone = Slot.gone
slot slot_variant.Blank = Slot.blank
slot slot_variant.Filled = Slot.filled

abbrev pub slots : code_scope.Scope → Slots
slots Empty = []
slots (Bound' p Γ s) = slot s ∷ slots Γ
