use Rattle.qtt_split.specs.Ways.{aim_of, way_of}
use Rattle.qtt_split.proofs.Stepping.{LedSoFar}
use Rattle.qtt_split.proofs.motive.through.Given as goal

abbrev pub invariant-loop-step : goal.invariant-loop-step
invariant-loop-step l =
    LedSoFar (aim_of l.aim) l.steps (way_of l.fn.begun) l.step-index l.frames.items (way_of l.way)
