use Rattle.std.proofs.Common.{◌≡◌, ◌++◌, drop, flat_map, map}
use Rattle.qtt_term.specs.Entries.{entries}
use Rattle.qtt_holes.specs.HoleText.{hole_text}
use Rattle.qtt_holes.specs.View.{hole}
use Rattle.qtt_cli.proofs.texts.put_holes.Given as goal

abbrev pub invariant-loop-hole : goal.invariant-loop-hole
invariant-loop-hole l =
    l.text.items ++ flat_map (hole_text (entries l.names) l.«module») (map hole (drop l.hole-index l.holes)) ≡
    l.fn.text.items ++ flat_map (hole_text (entries l.names) l.«module») (map hole l.holes)
