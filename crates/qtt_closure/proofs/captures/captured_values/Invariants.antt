use Rattle.std.proofs.Common.{◌≡◌}
use Rattle.qtt_erase.specs.Erasure.{place_at}
use Rattle.qtt_erase.specs.View.{side_by_side}
use Rattle.qtt_closure.specs.Scopes.{slot_list, slots}
use Rattle.qtt_closure.specs.View.{flat_terms}
use Rattle.qtt_closure.proofs.Scoping.{captured_from}
use Rattle.qtt_closure.proofs.captures.captured_values.Given as goal

abbrev pub invariant-loop-index : goal.invariant-loop-index
invariant-loop-index l = side_by_side (flat_terms l.values.items) ≡ captured_from l.index (slot_list l.captures)
    (place_at (slots l.scope))
