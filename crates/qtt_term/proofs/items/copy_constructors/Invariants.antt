use Rattle.std.proofs.Common.{◌≡◌, take, map}
use Rattle.qtt_term.specs.Items.{constructor_entry}
use Rattle.qtt_term.proofs.items.copy_constructors.Given as goal

abbrev pub invariant-loop-constructor : goal.invariant-loop-constructor
invariant-loop-constructor l =
    map constructor_entry l.copies.items ≡ map constructor_entry (take l.constructor-index l.constructors)
