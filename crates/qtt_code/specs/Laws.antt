-- The law of the machine: a run stops in one way.
use Rattle.std.specs.Prelude.{◌≡◌, ℕ}
use Rattle.qtt_code.specs.Instruction.{Program}
use Rattle.qtt_code.specs.Machine.{State, Halt, Advances}

-- within a bound a run has one halt, in one state after one number of ticks
abbrev pub HaltsAreUnique : Type 0
HaltsAreUnique =
    (P : Program) (bound : ℕ) (s : State) (h k : Halt) (a : Advances P bound s h) (b : Advances P bound s k) →
    (h ≡ k) × (a.made ≡ b.made) × (a.last ≡ b.last)
