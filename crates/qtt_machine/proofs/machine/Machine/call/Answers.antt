use Rattle.std.proofs.Common.{◌≡◌, refl}
use Rattle.qtt_code.specs.Machine.{called}
use Rattle.qtt_value.specs.View.{value}
use Rattle.qtt_machine.specs.Machine.{program}
use Rattle.qtt_machine.specs.View.{state}
use Rattle.qtt_machine.proofs.Beginning.{call_jumps_forward, may_begin}
use Rattle.qtt_machine.proofs.machine.Machine.call.Goals as goal

pub returns : goal.returns
returns c =
    let f = value c.args.function in
    let a = value c.args.argument in
    let at : state c.in_ok-self.field-0 ≡ called f a = rw c.in_ok-code.ensures at c.in_ok-self.ensures in
    record {
      same_program = refl;
      at = at;
      ticks = refl;
      ready = may_begin (program c.args.self.now) (called f a) c.in_ok-self.field-0 at
          (call_jumps_forward f a) c.requires.jumps c.requires.answers;
    }
