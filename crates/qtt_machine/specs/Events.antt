-- What an instruction of the code's machine comes to.
use Rattle.std.specs.Prelude.{◌≡◌}
use Rattle.qtt_term.specs.FullStep.{Cause}
use Rattle.qtt_code.specs.Machine.{State, Did}
use Rattle.qtt_value.specs.View.{value}
use Rattle.qtt_machine.specs.declared.event.TrapKind.{TrapKind}
use Rattle.qtt_machine.specs.declared.event.TrapKind.TheVariants as trap
use Rattle.qtt_machine.specs.declared.event.Event.{Event}
use Rattle.qtt_machine.specs.declared.event.Event.TheVariants as event
use Rattle.qtt_machine.specs.declared.frames.Frames as code_frames
use Rattle.qtt_machine.specs.View.{state}

abbrev pub cause : TrapKind → Cause
cause trap.MissingClause = Cause.missing_clause
cause trap.DivisionByZero = Cause.division_by_zero
cause trap.BadInputLine = Cause.bad_input_line

-- what was done, where the frames stand for this state afterwards
abbrev pub did : Event → State → Did
did event.Went s = Did.goes s
did event.Ticked s = Did.ticks s
did (event.Ended v) s = Did.ends (value v)
did (event.Trapped k) s = Did.traps (cause k)

-- an event tells exactly what was to be done
abbrev pub Does : Did → Event → code_frames.Frames → Type 0
Does d e m = d ≡ did e (state m)
