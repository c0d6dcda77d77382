use Rattle.qtt_code.specs.Machine.{Reaches}
use Rattle.qtt_code.specs.View.{program}
use Rattle.qtt_machine.specs.View.{state}
use Rattle.qtt_machine.specs.Halting.{MayRun}
use Rattle.qtt_machine.proofs.Falling.{instructions_left}
use Rattle.qtt_machine.proofs.running.to_halt.Given as goal

abbrev pub invariant-instructions : goal.invariant-instructions
invariant-instructions l =
    record {
      ready : MayRun (program l.program) l.frames;
      way : Reaches (program l.program) 0 (state l.initial.frames) (state l.frames);
    }

abbrev pub decreases-instructions : goal.decreases-instructions
decreases-instructions l = instructions_left (state l.frames)
