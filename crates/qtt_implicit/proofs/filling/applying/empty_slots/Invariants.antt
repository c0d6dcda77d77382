use Rattle.std.proofs.Common.{◌≡◌, ◌++◌}
use Rattle.qtt_implicit.specs.TextTypes.{open_list}
use Rattle.qtt_implicit.proofs.Braces.{empties}
use Rattle.qtt_implicit.proofs.filling.applying.empty_slots.Given as goal

abbrev pub invariant-loop : goal.invariant-loop
invariant-loop l = open_list l.slots ≡ empties l.counter ++ open_list l.fn.slots
