use Rattle.std.proofs.Common.{◌≡◌, drop, map}
use Rattle.qtt_term.specs.View.{term}
use Rattle.qtt_split.specs.Ways.{aim_of, frame_of, wrapped}
use Rattle.qtt_split.proofs.motive.wrapped.Given as goal

abbrev pub invariant-loop-place : goal.invariant-loop-place
invariant-loop-place l =
    term l.around ≡ wrapped (aim_of l.aim) (map frame_of (drop l.place l.frames)) (term l.fn.inner)
