use Rattle.std.proofs.Common.{◌≡◌, map, take}
use Rattle.qtt_term.specs.Globals.{definitions}
use Rattle.qtt_code.specs.Listing.{listing}
use Rattle.qtt_code.specs.View.{block}
use Rattle.qtt_code.proofs.lines.listing.Given as goal

abbrev pub invariant-loop-number : goal.invariant-loop-number
invariant-loop-number l =
    l.text.items ≡ listing (definitions l.names) (map block (take l.number l.program.blocks.items))
