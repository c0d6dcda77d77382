use Rattle.std.proofs.Common.{◌≤◌}
use Rattle.qtt_run.specs.Underway.{Origin, AfterTurn, Computes, fuel}
use Rattle.qtt_run.proofs.running.Running.go_on.Given as goal

-- whatever the run began from, it is still under way from there; and no count of faults fell
abbrev pub invariant-turns : goal.invariant-turns
invariant-turns g l =
    record {
      some : (o : Origin) × AfterTurn o l.self (g.S.Source.content l.input) (g.O.Sink.content l.out)
          (g.T.Tapes.tapes l.tapes) l.turn;
      all : (o : Origin) → Computes o l.initial.self (g.S.Source.content l.initial.input)
          (g.O.Sink.content l.initial.out) (g.T.Tapes.tapes l.initial.tapes) →
          AfterTurn o l.self (g.S.Source.content l.input) (g.O.Sink.content l.out) (g.T.Tapes.tapes l.tapes) l.turn;
      source : g.S.Source.faults l.initial.input ≤ g.S.Source.faults l.input;
      sink : g.O.Sink.faults l.initial.out ≤ g.O.Sink.faults l.out;
      tape : g.T.Tapes.faults l.initial.tapes ≤ g.T.Tapes.faults l.tapes;
    }

abbrev pub decreases-turns : goal.decreases-turns
decreases-turns g l = fuel l.turn l.self.left
