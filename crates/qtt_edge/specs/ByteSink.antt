-- What a sink in memory tells.
use Rattle.std.specs.Prelude.{ℕ, List, Option, Some}
use Rattle.qtt_edge.specs.declared.memory.byte_sink.ByteSink.{ByteSink}

-- the bytes that were put
abbrev pub told_bytes : {P : Type 0} → ByteSink P → Option (List ℕ)
told_bytes sink = Some sink.bytes.items
