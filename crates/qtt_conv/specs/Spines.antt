-- Terms taken apart at their heads.
use Rattle.std.specs.Prelude.{◌≡◌, List, [], ◌∷◌, ◌++◌, Some, None}
use Rattle.qtt_term.specs.Term.{Term}
use Rattle.qtt_term.specs.Signature.{Env}
use Rattle.qtt_term.specs.Question.{head_step}
use Rattle.qtt_term.specs.View.{term}
use Rattle.qtt_conv.specs.declared.frame.Frame.{Frame}
use Rattle.qtt_conv.specs.declared.spine.Spine.{Spine}
use Rattle.qtt_conv.specs.declared.spine.Step.{Step}
use Rattle.qtt_conv.specs.declared.spine.Step.TheVariants as step
use Rattle.qtt_conv.specs.Frames.{plug_all, Fits, IsFocus}

-- no literal stands directly in the place of a primitive's frame
abbrev pub Waits : List Frame → Term → Type 0
Waits fs t = (gs : List Frame) (f : Frame) → fs ≡ gs ++ f ∷ [] → Fits f t

abbrev pub whole : Spine → Term
whole s = plug_all s.frames.items (term s.focus)

-- the way to the head was gone to its end
pub record IsSettled (s : Spine) : Type 0 where
  pub focus : IsFocus (term s.focus)
  pub waits : Waits s.frames.items (term s.focus)

-- one contraction was made, or none is left
abbrev pub StepsTo : Env → Term → Step → Type 0
StepsTo E t (step.Contracted s) = (head_step E t ≡ Some (whole s)) × IsSettled s
StepsTo E t (step.Head h) = (head_step E t ≡ None) × (term h ≡ t)
