-- The whole stays what it is, and what is still to be gone through grows lighter.
use Rattle.std.proofs.Common.{◌≡◌, ◌+◌}
use Rattle.qtt_term.specs.Question.{weight}
use Rattle.qtt_envconv.specs.Closures.{closure}
use Rattle.qtt_envconv.specs.Frames.{plug_all, all_behind, AreFrames}
use Rattle.qtt_envconv.proofs.spine.entered.Given as goal

abbrev pub invariant-loop-frames : goal.invariant-loop-frames
invariant-loop-frames l = record {
  frames : AreFrames l.frames.items;
  whole : plug_all l.frames.items (closure l.inner) ≡ plug_all l.initial.frames.items (closure l.initial.closure);
}

abbrev pub decreases-loop-frames : goal.decreases-loop-frames
decreases-loop-frames l = weight (closure l.inner) + all_behind l.frames.items
