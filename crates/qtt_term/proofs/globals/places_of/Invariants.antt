use Rattle.std.proofs.Common.{◌≡◌, map, take}
use Rattle.qtt_term.specs.Items.{constructor_entry}
use Rattle.qtt_term.specs.Places.{places_from}
use Rattle.qtt_term.proofs.globals.places_of.Given as goal

abbrev pub invariant-loop-place : goal.invariant-loop-place
invariant-loop-place l = l.places.items ≡ places_from l.family 0
    (map constructor_entry (take l.place l.constructors))
