use Rattle.std.proofs.Common.{◌-◌, ◌<◌, arith}
use Rattle.qtt_run.proofs.running.Running.spend.Goals as goal

pub returns-clause-turns : goal.returns-clause-turns
returns-clause-turns c = λ o i u t a.
    let l : 0 < c.args.self.now.left = c.requires in
    record { run = a.next (c.args.self.now.left - 1) (omega (arith, l)); stands = a.program }
