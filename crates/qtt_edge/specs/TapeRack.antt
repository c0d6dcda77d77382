-- What tapes in memory tell.
use Rattle.std.specs.Prelude.{List, map, Option, Some}
use Rattle.qtt_prims.specs.Tapes.{Taped}
use Rattle.qtt_edge.specs.declared.memory.tape_rack.Tape.{Tape}
use Rattle.qtt_edge.specs.declared.memory.tape_rack.TapeRack.{TapeRack}

abbrev pub taped : Tape → Taped
taped tape = record { name = tape.name; lines = tape.lines.items; is_open = tape.is_open }

abbrev pub told_tapes : {P : Type 0} → TapeRack P → Option (List Taped)
told_tapes rack = Some (map taped rack.tapes.items)
