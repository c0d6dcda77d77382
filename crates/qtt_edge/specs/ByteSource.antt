-- What a source in memory tells.
use Rattle.std.specs.Prelude.{ℕ, List, drop, Option, Some}
use Rattle.qtt_edge.specs.declared.memory.byte_source.ByteSource.{ByteSource}

-- the bytes that were not given yet
abbrev pub told_left : {P : Type 0} → ByteSource P → Option (List ℕ)
told_left source = Some (drop source.at source.bytes.items)
