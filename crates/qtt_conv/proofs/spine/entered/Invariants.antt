use Rattle.std.proofs.Common.{◌≡◌}
use Rattle.qtt_term.specs.Question.{weight}
use Rattle.qtt_term.specs.View.{term}
use Rattle.qtt_conv.specs.Frames.{plug_all}
use Rattle.qtt_conv.specs.Spines.{Waits}
use Rattle.qtt_conv.proofs.spine.entered.Given as goal

abbrev pub invariant-loop-frames : goal.invariant-loop-frames
invariant-loop-frames l = record {
  whole : plug_all l.frames.items (term l.inner) ≡ plug_all l.initial.frames.items (term l.initial.inner);
  waits : Waits l.frames.items (term l.inner);
}

abbrev pub decreases-loop-frames : goal.decreases-loop-frames
decreases-loop-frames l = weight (term l.inner)
