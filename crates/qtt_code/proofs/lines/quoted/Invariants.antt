use Rattle.std.proofs.Common.{◌≡◌, ◌++◌, codes, flat_map, take}
use Rattle.qtt_code.specs.Listing.{escaped}
use Rattle.qtt_code.proofs.lines.quoted.Given as goal

abbrev pub invariant-loop-byte : goal.invariant-loop-byte
invariant-loop-byte l = l.quoted.items ≡ codes "text \"" ++ flat_map escaped (take l.byte-index l.byte-items)
