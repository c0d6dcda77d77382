use Rattle.std.proofs.Common.{arith}
use Rattle.qtt_machine.proofs.Taking.{taken_rest}
use Rattle.qtt_machine.proofs.frames.Frames.top.Goals as goal

pub returns : goal.returns
returns c =
    taken_rest c.args.self.now.pushed.items c.args.self.now.running.pushed c.args.count c.requires
    c.deref.result.now c.len.result
    c.args.self.now.stacked.0.1 c.deref.ensures.value (omega arith)
