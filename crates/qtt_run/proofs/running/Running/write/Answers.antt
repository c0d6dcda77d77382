use Rattle.qtt_run.specs.Stop.{tape_failure}
use Rattle.qtt_run.proofs.Effects.{write-open}
use Rattle.qtt_run.proofs.Stepping.{turn-failed, underway-broken, write-ahead, write-broken}
use Rattle.qtt_run.proofs.Valued.{gives-handle}
use Rattle.qtt_run.proofs.running.Running.write.Goals as goal

pub write-requires : goal.write-requires
write-requires g c = write-open c.requires.at.3.run

pub returns-in_err-handle-clause-turns : goal.returns-in_err-handle-clause-turns
returns-in_err-handle-clause-turns g c = λ o i u a.
    turn-failed tape_failure o _ _ i u (g.T.Tapes.tapes c.args.tapes.now) c.from_residual.result
    c.from_residual.ensures.1 (underway-broken c.args.self.now a)

pub returns-in_err-write-clause-turns : goal.returns-in_err-write-clause-turns
returns-in_err-write-clause-turns g c = λ o i u a.
    let t = g.T.Tapes.tapes c.write.new.tapes in
    turn-failed tape_failure o _ _ i u t c.from_residual-in_err-write.result c.from_residual-in_err-write.ensures.1
    (write-broken c.args.self.now c.requires.left _ t a c.in_err-write.ensures.err)

pub returns-clause-turns : goal.returns-clause-turns
returns-clause-turns g c = λ o i u a.
    let t = g.T.Tapes.tapes c.write.new.tapes in
    c.spend.ensures.turns o i u t
    (write-ahead c.args.self.now a t c.in_ok-write.ensures.ok (c.in_ok-write.ensures.mirrors a.run.opened a.run.mirrors)
    _ (gives-handle c.args.place c.in_ok-handle.ensures))
