-- The machine's contract.
use Rattle.std.specs.Prelude.{◌≡◌, ℕ, ◌+◌}
use Rattle.qtt_code.specs.Instruction.{Program}
use Rattle.qtt_code.specs.Machine.{State}
use Rattle.qtt_code.specs.View as code
use Rattle.qtt_machine.specs.declared.event.Halt.{Halt}
use Rattle.qtt_machine.specs.declared.machine.Machine as code_machine
use Rattle.qtt_machine.specs.View as frames
use Rattle.qtt_machine.specs.Halting.{MayRun, Ran}

abbrev pub program : code_machine.Machine → Program
program m = code.program m.program.now

abbrev pub state : code_machine.Machine → State
state m = frames.state m.frames

-- it may advance: each bound is answered, by code whose jumps go to later places
abbrev pub IsReady : code_machine.Machine → Type 0
IsReady m = MayRun (program m) m.frames

-- it stands at the beginning of an evaluation
pub record Begins (P : Program) (s : State) (used : ℕ) (m : code_machine.Machine) : Type 0 where
  pub same_program : program m ≡ P
  pub at : state m ≡ s
  pub ticks : m.used ≡ used
  pub ready : IsReady m

-- it made the ticks of a run within the bound, and where that was spent it may advance from there
pub record Advanced (m : code_machine.Machine) (ticks : ℕ) (h : Halt) (n : code_machine.Machine) : Type 0 where
  pub made : ℕ
  pub ran : Ran (program m) (state m) ticks h made n.frames
  pub used : n.used ≡ m.used + made
  pub same_program : program n ≡ program m
