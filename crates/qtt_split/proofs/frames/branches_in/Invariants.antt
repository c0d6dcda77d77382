use Rattle.qtt_term.specs.View.{term}
use Rattle.qtt_split.specs.Ways.{aim_of, frame_of}
use Rattle.qtt_split.proofs.Framing.{BranchesSoFar}
use Rattle.qtt_split.proofs.frames.branches_in.Given as goal

abbrev pub invariant-loop-place : goal.invariant-loop-place
invariant-loop-place l =
    BranchesSoFar (aim_of l.aim) (frame_of l.frame) (term l.body) l.constructors l.place l.branches.items
