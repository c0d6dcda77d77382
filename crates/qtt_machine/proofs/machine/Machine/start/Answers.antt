use Rattle.std.proofs.Common.{◌≡◌, refl}
use Rattle.qtt_code.specs.Machine.{start}
use Rattle.qtt_code.specs.View.{program}
use Rattle.qtt_machine.specs.View.{state}
use Rattle.qtt_machine.proofs.Beginning.{start_jumps_forward, may_begin}
use Rattle.qtt_machine.proofs.machine.Machine.start.Goals as goal

pub returns : goal.returns
returns c =
    let at : state c.in_ok-frames.frames ≡ start c.args.block = rw c.in_ok-code.ensures at c.in_ok-frames.ensures in
    record {
      same_program = refl;
      at = at;
      ticks = refl;
      ready =
          may_begin (program c.args.program.now) (start c.args.block) c.in_ok-frames.frames at
          (start_jumps_forward c.args.block) c.requires.jumps
          c.requires.answers;
    }
