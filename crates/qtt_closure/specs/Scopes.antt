-- Which of the variables in scope a function has, as the code's scopes tell it.
use Rattle.std.specs.Prelude.{Bool, cond, List, map}
use Rattle.qtt_erase.specs.Erasure.{Slot, Slots}
use Rattle.qtt_closure.specs.declared.scope.Scope as code_scope
use Rattle.qtt_closure.specs.declared.scope.Scope.TheVariants.{Captures, Bound'}
use Rattle.qtt_closure.specs.Conversion.{bound}

-- a variable that is captured has a place in the function's frame
abbrev pub slot : Bool → Slot
slot b = cond b Slot.filled Slot.gone

abbrev pub slot_list : List Bool → Slots
slot_list = map slot

abbrev pub slots : code_scope.Scope → Slots
slots (Captures bs) = slot_list bs.now
slots (Bound' p Γ n) = bound n (slots Γ)
