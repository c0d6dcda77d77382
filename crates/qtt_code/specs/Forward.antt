-- Code whose jumps go to later places: what runs it makes a tick, comes back from a block or ends after finitely
-- many instructions.
use Rattle.std.specs.Prelude.{◌≡◌, ℕ, ◌<◌, List, Some, slice_get}
use Rattle.qtt_code.specs.Instruction.{Instr, Block, Program}

abbrev pub JumpsForward : List Instr → Type 0
JumpsForward is = (place to : ℕ) → slice_get is place ≡ Some (Instr.jump to) → place < to

-- in each block of a program
abbrev pub AllJumpForward : Program → Type 0
AllJumpForward P = (b : ℕ) (B : Block) → slice_get P b ≡ Some B → JumpsForward B.code
