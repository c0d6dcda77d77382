-- Frames that may run, an instruction later.
use Rattle.std.proofs.Common.{◌≡◌, ◌<◌}
use Rattle.qtt_code.specs.Instruction.{Program}
use Rattle.qtt_code.specs.Machine.{State, Did, instruction}
use Rattle.qtt_machine.specs.declared.frames.Frames as code_frames
use Rattle.qtt_machine.specs.View.{state}
use Rattle.qtt_machine.specs.Halting.{MayRun}
use Rattle.qtt_machine.proofs.Doing.{is_within}
use Rattle.qtt_machine.proofs.Reaching.{goes_answers, ticks_answers, answers_unstuck}
use Rattle.qtt_machine.proofs.Falling.{Falls, instructions_left, goes_falls, ticks_lead}

module _ (P : Program) (m : code_frames.Frames) (ready : MayRun P m) where
  pub is_unstuck : ¬ (instruction P (state m) ≡ Did.stuck)
  is_unstuck = answers_unstuck P (state m) ready.answers

  falls-to : (t : State) → instruction P (state m) ≡ Did.goes t → Falls (state m) t
  falls-to t e = goes_falls (state m) ready.forward (is_within P (state m) is_unstuck) P t e

  pub goes_on : (n : code_frames.Frames) → instruction P (state m) ≡ Did.goes (state n) → MayRun P n
  goes_on n e =
      record {
        jumps = ready.jumps;
        forward = (falls-to (state n) e).forward;
        answers = goes_answers P (state m) (state n) e ready.answers;
      }

  pub ticks_on : (n : code_frames.Frames) → instruction P (state m) ≡ Did.ticks (state n) → MayRun P n
  ticks_on n e =
      record {
        jumps = ready.jumps;
        forward = ticks_lead P ready.jumps (state m) (state n) ready.forward e;
        answers = ticks_answers P (state m) (state n) e ready.answers;
      }

  pub fewer_left : (t : State) → instruction P (state m) ≡ Did.goes t →
      instructions_left t < instructions_left (state m)
  fewer_left t e = (falls-to t e).less
