-- That each slot has the weight of what fills it is a fact of the slots alone.
use Rattle.std.specs.Prelude.{ℕ, Bool, refl}
use Rattle.std.specs.Coded.{Coded, Coded-set, code_by, coded×, coded_ℕ, coded_bool, ×_prop, Unit-prop}
use Rattle.qtt_implicit.specs.Nodes.{node_tree}
use Rattle.qtt_implicit.specs.Slots.{IsSound, seen, slot_list, weight_of}
use Rattle.qtt_implicit.specs.declared.filling.weights.Weight.{Weight}
use Rattle.qtt_implicit.specs.declared.filling.slots.Slots as slots_code
use Rattle.qtt_implicit.specs.declared.filling.slots.Slots.TheVariants as slot

abbrev pub weight_code : Coded Weight
weight_code =
    code_by (ℕ × Bool) (coded× coded_ℕ coded_bool) (λ w. (w.nodes, w.known))
    (λ p. record { nodes = p.0; known = p.1 }) (λ _. refl)

pub is_sound_prop : (s : slots_code.Slots) → IsProp (IsSound s)
is_sound_prop slot.End = Unit-prop
is_sound_prop (slot.Empty' p older) = is_sound_prop older
is_sound_prop (slot.Filled' t p slots r m w q older) =
    ×_prop (Coded-set weight_code w (weight_of (seen r m (slot_list slots) (node_tree t.now))))
    (×_prop (is_sound_prop slots) (is_sound_prop older))
