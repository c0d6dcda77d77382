-- What a pull of a source in memory does, where it does not fail.
use Rattle.std.specs.Prelude.{◌≡◌, ℕ, ◌+◌, ◌==◌, ◌&&◌, ltb, List, ◌++◌, length, take, drop, min}
use Rattle.qtt_edge.specs.Counts.{raised_if}
use Rattle.qtt_edge.specs.declared.memory.byte_source.ByteSource.{ByteSource}

-- as many of the bytes that are left were put in front of the buffer as it has room for, and the rest of the
-- buffer stays; an end is counted where there is room and nothing is left
pub record Pulls {P : Type 0} (before after : ByteSource P) (room filled : List ℕ) (count : ℕ) : Type 0 where
  pub many : count ≡ min (length room) (length (drop before.at before.bytes.items))
  pub at : after.at ≡ before.at + count
  pub bytes : filled ≡ take count (drop before.at before.bytes.items) ++ drop count room
  pub ends : after.ends ≡ raised_if ((count == 0) && (ltb 0 (length room))) before.ends
