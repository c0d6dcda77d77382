-- How many blocks and instructions definitions have.
use Rattle.std.specs.Prelude.{ℕ, ◌+◌, List, [], length, min, Option, Some, None}
use Rattle.std.specs.List.{sum_by}
use Rattle.qtt_base.specs.declared.place.GlobalId.{GlobalId}
use Rattle.qtt_base.specs.Limits.{standard}
use Rattle.qtt_term.specs.Signature.{Env}
use Rattle.qtt_erase.specs.Lean.{Lean}
use Rattle.qtt_erase.specs.Erasure.{erased_bodies}
use Rattle.qtt_closure.specs.Flat.{Function}
use Rattle.qtt_closure.specs.Conversion.{conversion}
use Rattle.qtt_code.specs.Instruction.{Position, Block}
use Rattle.qtt_lower.specs.declared.definition.Size.{Size}
use Rattle.qtt_lower.specs.Lowering.{width}
use Rattle.qtt_lower.specs.Programs.{Base, entry, lowered}

abbrev pub body_width : Function → ℕ
body_width F = width Position.tail F.body

-- of a definition with this erased body, or with none
abbrev pub block_count : Option Lean → ℕ
block_count None = 0
block_count (Some t) = length (conversion 0 t)

abbrev pub instruction_count : Option Lean → ℕ
instruction_count None = 0
instruction_count (Some t) = sum_by body_width (conversion 0 t)

-- a number, or one above its limit where it is greater
abbrev pub capped : ℕ → ℕ → ℕ
capped limit n = min n (limit + 1)

abbrev pub size : Env → GlobalId → Size
size E d = record {
  blocks = capped standard.blocks (block_count (erased_bodies E d));
  instrs = capped standard.instructions (instruction_count (erased_bodies E d));
}

-- the blocks of a definition with this erased body, or with none, where definitions have these bases
abbrev pub blocks_of : List Base → GlobalId → Option Lean → List Block
blocks_of bs d None = []
blocks_of bs d (Some t) = lowered (entry bs) (entry bs d) (record { id = d; term = t })
