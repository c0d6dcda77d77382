-- An instruction without a tick leaves fewer instructions.
use Rattle.std.proofs.Common.{◌≡◌, ◌∙◌, ap}
use Rattle.qtt_code.specs.Machine.{Did, instruction, Reaches}
use Rattle.qtt_code.specs.View.{program}
use Rattle.qtt_machine.specs.View.{state}
use Rattle.qtt_machine.specs.Events.{did}
use Rattle.qtt_machine.proofs.Reaching.{then_goes}
use Rattle.qtt_machine.proofs.GoingOn.{is_unstuck, goes_on, fewer_left}
use Rattle.qtt_machine.proofs.running.to_halt.Goals as goal

pub instructions-init : goal.instructions-init
instructions-init c = record { ready = c.requires; way = Reaches.here }

pub ticks_next-requires : goal.ticks_next-requires
ticks_next-requires c = is_unstuck (program c.args.program.now) c.instructions.frames c.instructions.invariant.ready

pub step-requires : goal.step-requires
step-requires c = is_unstuck (program c.args.program.now) c.instructions.frames c.instructions.invariant.ready

pub instructions-smaller : goal.instructions-smaller
instructions-smaller c =
    fewer_left (program c.args.program.now) c.instructions.frames c.instructions.invariant.ready
    (state c.step.new.frames)
    (c.in_ok-step.ensures ∙ ap (λ e. did e (state c.step.new.frames)) c.in-Went.is)

pub instructions-preserved : goal.instructions-preserved
instructions-preserved c =
    let P = program c.args.program.now in
    let e : instruction P (state c.instructions.frames) ≡ Did.goes (state c.step.new.frames) =
    c.in_ok-step.ensures ∙ ap (λ e. did e (state c.step.new.frames)) c.in-Went.is in
    record {
      ready = goes_on P c.instructions.frames c.instructions.invariant.ready c.step.new.frames e;
      way = then_goes P c.instructions.invariant.way e;
    }
