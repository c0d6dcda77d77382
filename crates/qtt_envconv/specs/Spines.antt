-- Closures taken apart at their heads.
use Rattle.std.specs.Prelude.{◌≡◌, ℕ, ◌+◌, ◌<◌, Some, None}
use Rattle.qtt_term.specs.Term.{Term}
use Rattle.qtt_term.specs.Signature.{Env}
use Rattle.qtt_term.specs.Question.{head_step, Head, weight}
use Rattle.qtt_envconv.specs.declared.spine.Spine.{Spine}
use Rattle.qtt_envconv.specs.declared.spine.Step.{Step}
use Rattle.qtt_envconv.specs.declared.spine.Step.TheVariants as step
use Rattle.qtt_envconv.specs.declared.spine.Passed.{Passed}
use Rattle.qtt_envconv.specs.declared.spine.Passed.TheVariants as passed
use Rattle.qtt_envconv.specs.declared.heads.Found.{Found}
use Rattle.qtt_envconv.specs.declared.heads.Found.TheVariants as found_code
use Rattle.qtt_envconv.specs.Closures.{closure}
use Rattle.qtt_envconv.specs.Frames.{plug_all, AreFrames, Waits, all_behind, focus as focus_of, IsFocus}
use Rattle.qtt_envconv.specs.Nodes.{node, IsReady}

abbrev pub whole : Spine → Term
whole s = plug_all s.frames.items (focus_of s.focus)

-- the way to the head was gone to its end
pub record IsSettled (s : Spine) : Type 0 where
  pub focus : IsFocus s.focus
  pub frames : AreFrames s.frames.items
  pub waits : Waits s.frames.items (focus_of s.focus)

-- a term taken apart as far as its head, or a component that is lighter with what is behind the frames
abbrev pub PassesTo : ℕ → Term → Passed → Type 0
PassesTo n t (passed.On fs c) =
    AreFrames fs.items × (plug_all fs.items (closure c) ≡ t) × (weight (closure c) + all_behind fs.items < n)
PassesTo n t (passed.Settled s) = IsSettled s × (whole s ≡ t)

-- one contraction was made, or none is left
abbrev pub StepsTo : Env → Term → Step → Type 0
StepsTo E t (step.Contracted s) = (head_step E t ≡ Some (whole s)) × IsSettled s
StepsTo E t (step.Head h) = (head_step E t ≡ None) × (node h ≡ t) × IsReady E h

-- what the head of a term came to
abbrev pub found : Found → Head
found (found_code.Head h n) = Head.done (node h) n
found found_code.Spent = Head.spent

abbrev pub IsFoundReady : Env → Found → Type 0
IsFoundReady E (found_code.Head h n) = IsReady E h
IsFoundReady E found_code.Spent = Unit {0}
