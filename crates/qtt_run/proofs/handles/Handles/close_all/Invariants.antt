use Rattle.std.proofs.Common.{◌≤◌}
use Rattle.qtt_run.proofs.Closing.{ShutsFront}
use Rattle.qtt_run.proofs.handles.Handles.close_all.Given as goal

abbrev pub invariant-places : goal.invariant-places
invariant-places g l =
    record {
      shuts : ShutsFront l.initial.self l.self (g.T.Tapes.tapes l.initial.tapes) (g.T.Tapes.tapes l.tapes) l.place;
      faults : g.T.Tapes.faults l.initial.tapes ≤ g.T.Tapes.faults l.tapes;
    }
