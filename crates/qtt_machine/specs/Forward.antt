-- States whose code's jumps go to later places.
use Rattle.std.specs.Prelude.{List, [], ◌∷◌}
use Rattle.qtt_code.specs.Machine.{Frame, State}
use Rattle.qtt_code.specs.Forward.{JumpsForward}

abbrev pub FramesJumpForward : List Frame → Type 0
FramesJumpForward [] = Unit {0}
FramesJumpForward (f ∷ fs) = JumpsForward f.code × FramesJumpForward fs

abbrev pub StateJumpsForward : State → Type 0
StateJumpsForward s = FramesJumpForward (s.frame ∷ s.waiting)
