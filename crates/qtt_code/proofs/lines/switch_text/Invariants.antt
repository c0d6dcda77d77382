use Rattle.std.proofs.Common.{◌≡◌, ◌++◌, codes, flat_map, take}
use Rattle.qtt_code.specs.Listing.{next_number}
use Rattle.qtt_code.proofs.lines.switch_text.Given as goal

abbrev pub invariant-loop-place : goal.invariant-loop-place
invariant-loop-place l = l.text.items ≡ codes "switch" ++ flat_map next_number (take l.place-index l.places)
