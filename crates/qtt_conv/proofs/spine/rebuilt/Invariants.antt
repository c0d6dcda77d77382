use Rattle.std.proofs.Common.{◌≡◌, vec_len}
use Rattle.qtt_term.specs.View.{term}
use Rattle.qtt_conv.specs.Frames.{plug_all}
use Rattle.qtt_conv.proofs.spine.rebuilt.Given as goal

abbrev pub invariant-loop-frame : goal.invariant-loop-frame
invariant-loop-frame l = plug_all l.frames.items (term l.inner) ≡ plug_all l.initial.frames.items (term l.initial.inner)

abbrev pub decreases-loop-frame : goal.decreases-loop-frame
decreases-loop-frame l = vec_len l.frames
