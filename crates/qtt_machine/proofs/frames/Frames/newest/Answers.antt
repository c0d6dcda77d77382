use Rattle.std.proofs.Common.{arith}
use Rattle.qtt_machine.proofs.Stacking.{newest_is}
use Rattle.qtt_machine.proofs.frames.Frames.newest.Goals as goal

pub returns : goal.returns
returns c =
    let m = c.args.self.now in
    newest_is m.pushed.items m.running.pushed c.args.newer c.len.result c.index.result.now
    c.args.self.now.stacked.0.1 c.requires (omega arith) c.index.ensures
