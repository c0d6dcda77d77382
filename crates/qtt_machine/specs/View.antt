-- What the machine's frames stand for.
use Rattle.std.specs.Prelude.{List, [], ◌∷◌, take, drop, reverse}
use Rattle.qtt_code.specs.Instruction.{Position}
use Rattle.qtt_code.specs.Machine.{Frame, State}
use Rattle.qtt_code.specs.View.{instrs}
use Rattle.qtt_value.specs.declared.val.Val.{Val}
use Rattle.qtt_value.specs.View.{values}
use Rattle.qtt_machine.specs.declared.frames.Frame as code_frame
use Rattle.qtt_machine.specs.declared.frames.Frames as code_frames
use Rattle.qtt_machine.specs.declared.frames.Entry as code_entry
use Rattle.qtt_machine.specs.declared.frames.Entry.TheVariants as entry

abbrev pub position : code_entry.Entry → Position
position entry.Inner = Position.inner
position entry.Tail = Position.tail

-- a frame over stacks that end with its own values
abbrev pub frame : List Val → List Val → code_frame.Frame → Frame
frame locals pushed f =
    record {
      code = instrs f.code.now;
      place = f.place;
      captured = values f.captured.now;
      locals = values (drop f.locals locals);
      pushed = reverse (values (drop f.pushed pushed));
    }

-- frames, the newest first, each over what the values of those before it leave
abbrev pub frames : List Val → List Val → List code_frame.Frame → List Frame
frames locals pushed [] = []
frames locals pushed (f ∷ fs) = frame locals pushed f ∷ frames (take f.locals locals) (take f.pushed pushed) fs

abbrev pub state_over : List Val → List Val → code_frame.Frame → List code_frame.Frame → State
state_over locals pushed f fs =
    record { frame = frame locals pushed f; waiting = frames (take f.locals locals) (take f.pushed pushed) fs }

abbrev pub state : code_frames.Frames → State
state m = state_over m.locals.items m.pushed.items m.running (reverse m.waiting.items)
