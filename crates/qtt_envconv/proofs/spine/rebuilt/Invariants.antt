-- The frames that are left around the head make the whole.
use Rattle.std.proofs.Common.{◌≡◌, vec_len}
use Rattle.qtt_term.specs.Signature.{Env}
use Rattle.qtt_envconv.specs.Frames.{plug_all, AreFrames, HasStopped}
use Rattle.qtt_envconv.specs.Nodes.{node, IsReady}
use Rattle.qtt_envconv.proofs.spine.rebuilt.Given as goal

abbrev pub invariant-loop-frame : goal.invariant-loop-frame
invariant-loop-frame l = record {
  frames : AreFrames l.frames.items;
  whole : plug_all l.frames.items (node l.head) ≡ plug_all l.initial.frames.items (node l.inner);
  ready : (E : Env) → HasStopped E (node l.inner) → IsReady E l.inner → HasStopped E (node l.head) × IsReady E l.head;
}

abbrev pub decreases-loop-frame : goal.decreases-loop-frame
decreases-loop-frame l = vec_len l.frames
