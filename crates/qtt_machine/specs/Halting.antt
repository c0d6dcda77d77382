-- What a run of the code's machine comes to.
use Rattle.std.specs.Prelude.{◌≡◌, ℕ}
use Rattle.qtt_code.specs.Instruction.{Program}
use Rattle.qtt_code.specs.Machine as machine
use Rattle.qtt_code.specs.Machine.{State, Did, instruction, Reaches, Advances}
use Rattle.qtt_value.specs.View.{value}
use Rattle.qtt_machine.specs.declared.event.Event.{Event}
use Rattle.qtt_machine.specs.declared.event.Event.TheVariants as event
use Rattle.qtt_machine.specs.declared.event.Halt.{Halt}
use Rattle.qtt_machine.specs.declared.event.Halt.TheVariants as halted
use Rattle.qtt_machine.specs.declared.frames.Frames as code_frames
use Rattle.qtt_machine.specs.View.{state}
use Rattle.qtt_machine.specs.Events.{cause}
use Rattle.qtt_machine.specs.Runs.{Answers}
use Rattle.qtt_code.specs.Forward.{AllJumpForward}
use Rattle.qtt_machine.specs.Forward.{StateJumpsForward}

abbrev pub halt : Halt → machine.Halt
halt (halted.Done v) = machine.Halt.done (value v)
halt (halted.Trap k) = machine.Halt.trapped (cause k)
halt halted.Spent = machine.Halt.spent

-- frames that may run on: their state answers every bound, by code whose jumps go to later places
pub record MayRun (P : Program) (m : code_frames.Frames) : Type 0 where
  pub jumps : AllJumpForward P
  pub forward : StateJumpsForward (state m)
  pub answers : Answers P (state m)

-- without a tick, a state in which the next instruction does this
pub record Arrives (P : Program) (s : State) (d : Did) : Type 0 where
  pub last : State
  pub way : Reaches P 0 s last
  pub is : instruction P last ≡ d

-- where the frames stand behind the next tick, or why there is none
abbrev pub AtTick : Program → State → Event → code_frames.Frames → Type 0
AtTick P s event.Went m = ⊥
AtTick P s event.Ticked m = Arrives P s (Did.ticks (state m)) × MayRun P m
AtTick P s (event.Ended v) m = Arrives P s (Did.ends (value v))
AtTick P s (event.Trapped k) m = Arrives P s (Did.traps (cause k))

-- where the frames stand before the next tick, or why there is none
pub record BeforeTick (P : Program) (s : State) (m : code_frames.Frames) : Type 0 where
  pub way : Reaches P 0 s (state m)
  pub next : State
  pub ticks : instruction P (state m) ≡ Did.ticks next
  pub ready : MayRun P m

abbrev pub AtHalt : Program → State → Halt → code_frames.Frames → Type 0
AtHalt P s (halted.Done v) m = Arrives P s (Did.ends (value v))
AtHalt P s (halted.Trap k) m = Arrives P s (Did.traps (cause k))
AtHalt P s halted.Spent m = BeforeTick P s m

-- after Spent the frames stand where the run stopped, and may run on
abbrev pub GoesOn : Program → Halt → State → code_frames.Frames → Type 0
GoesOn P (halted.Done v) last m = Unit {0}
GoesOn P (halted.Trap k) last m = Unit {0}
GoesOn P halted.Spent last m = (state m ≡ last) × MayRun P m

-- the machine advanced within so many ticks, and made so many of them
pub record Ran (P : Program) (s : State) (bound : ℕ) (h : Halt) (made : ℕ) (m : code_frames.Frames) : Type 0 where
  pub run : Advances P bound s (halt h)
  pub count : run.made ≡ made
  pub rest : GoesOn P h run.last m
