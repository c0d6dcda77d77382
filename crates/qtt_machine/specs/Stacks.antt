-- Frames whose values stand on the stacks in their order.
use Rattle.std.specs.Prelude.{ℕ, ◌<◌, ◌≤◌, List, [], ◌∷◌, length}
use Rattle.std.specs.Coded.{×_prop, Unit-prop, le_prop}
use Rattle.qtt_code.specs.Machine.{State}
use Rattle.qtt_machine.specs.declared.frames.Frame as code_frame

-- the next instruction stands in the block
abbrev pub IsWithin : State → Type 0
IsWithin s = s.frame.place < length s.frame.code

-- the values of a frame begin within so many locals and so many values that were pushed
abbrev pub BeginsWithin : code_frame.Frame → ℕ → ℕ → Type 0
BeginsWithin f locals pushed = (f.locals ≤ locals) × (f.pushed ≤ pushed)

-- the values of each frame, the newest first, begin no later than those of the one before it
abbrev pub InOrder : List code_frame.Frame → ℕ → ℕ → Type 0
InOrder [] locals pushed = Unit {0}
InOrder (f ∷ fs) locals pushed = BeginsWithin f locals pushed × InOrder fs f.locals f.pushed

pub InOrder-prop : (fs : List code_frame.Frame) (locals pushed : ℕ) → IsProp (InOrder fs locals pushed)
InOrder-prop [] locals pushed = Unit-prop
InOrder-prop (f ∷ fs) locals pushed = ×_prop (×_prop le_prop le_prop) (InOrder-prop fs f.locals f.pushed)
