-- A turn makes a tick, or the run is over; behind the last turn the bound is reached.
use Rattle.std.proofs.Common.{◌≡◌, subst, arith}
use Rattle.qtt_code.specs.Machine.{Reaches}
use Rattle.qtt_code.specs.View.{program}
use Rattle.qtt_machine.specs.View.{state}
use Rattle.qtt_machine.proofs.Arriving.{one_more, ran_to_end, ran_to_trap, ran_up}
use Rattle.qtt_machine.proofs.running.run.Goals as goal

pub ticks-init : goal.ticks-init
ticks-init c = record { ready = c.requires; way = Reaches.here }

pub returns-in-Ended : goal.returns-in-Ended
returns-in-Ended c =
    let a = rw c.in-Ended.is at c.in_ok-to_tick.ensures in
    ran_to_end (program c.args.program.now) (state c.args.frames.now)
    (state c.ticks.frames) c.ticks.made c.ticks.invariant.way c.args.ticks (omega arith) c.in-Ended.value
    c.to_tick.new.frames a

pub returns-in-Trapped : goal.returns-in-Trapped
returns-in-Trapped c =
    let a = rw c.in-Trapped.is at c.in_ok-to_tick.ensures in
    ran_to_trap (program c.args.program.now) (state c.args.frames.now)
    (state c.ticks.frames) c.ticks.made c.ticks.invariant.way c.args.ticks (omega arith) c.in-Trapped.kind
    c.to_tick.new.frames a

pub ticks-preserved : goal.ticks-preserved
ticks-preserved c =
    let a = rw c.in-Ticked.is at c.in_ok-to_tick.ensures in
    record {
      ready = a.1;
      way = one_more (program c.args.program.now) (state c.args.frames.now)
          (state c.ticks.frames) c.ticks.made c.ticks.invariant.way (state c.to_tick.new.frames) a.0;
    }

pub returns : goal.returns
returns c =
    let P = program c.args.program.now in
    let e : c.ticks.made ≡ c.args.ticks = omega arith in
    ran_up P (state c.args.frames.now) (state c.ticks.frames) c.args.ticks
    (subst (λ n. Reaches P n (state c.args.frames.now) (state c.ticks.frames)) e c.ticks.invariant.way)
    c.in_ok-halt.halt c.to_halt.new.frames c.in_ok-halt.ensures
