-- States from which each bound is answered.
use Rattle.std.specs.Prelude.{ℕ}
use Rattle.qtt_code.specs.Instruction.{Program}
use Rattle.qtt_code.specs.Machine.{State, Halt, Advances}

-- however many ticks may be made, the machine halts: it neither is stuck nor goes on for ever without a tick
abbrev pub Answers : Program → State → Type 0
Answers P s = (bound : ℕ) → (h : Halt) × Advances P bound s h
