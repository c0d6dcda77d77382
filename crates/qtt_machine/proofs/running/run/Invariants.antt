use Rattle.qtt_code.specs.Machine.{Reaches}
use Rattle.qtt_code.specs.View.{program}
use Rattle.qtt_machine.specs.View.{state}
use Rattle.qtt_machine.specs.Halting.{MayRun}
use Rattle.qtt_machine.proofs.running.run.Given as goal

abbrev pub invariant-ticks : goal.invariant-ticks
invariant-ticks l =
    record {
      ready : MayRun (program l.program) l.frames;
      way : Reaches (program l.program) l.made
          (state l.initial.frames) (state l.frames);
    }
