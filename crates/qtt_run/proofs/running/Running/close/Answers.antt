use Rattle.std.proofs.Common.{refl}
use Rattle.qtt_run.specs.Stop.{tape_failure}
use Rattle.qtt_run.proofs.Effects.{close-open}
use Rattle.qtt_run.proofs.Stepping.{turn-failed, underway-broken, close-ahead, close-broken}
use Rattle.qtt_run.proofs.Valued.{gives-unit}
use Rattle.qtt_run.proofs.running.Running.close.Goals as goal

pub close-requires : goal.close-requires
close-requires g c = close-open c.requires.at.3.run

pub returns-in_err-unit-clause-turns : goal.returns-in_err-unit-clause-turns
returns-in_err-unit-clause-turns g c = λ o i u a.
    turn-failed tape_failure o _ _ i u (g.T.Tapes.tapes c.args.tapes.now) c.from_residual.result
    c.from_residual.ensures.1 (underway-broken c.args.self.now a)

pub returns-in_err-close-clause-turns : goal.returns-in_err-close-clause-turns
returns-in_err-close-clause-turns g c = λ o i u a.
    let t = g.T.Tapes.tapes c.close.new.tapes in
    turn-failed tape_failure o _ _ i u t c.from_residual-in_err-close.result c.from_residual-in_err-close.ensures.1
    (close-broken c.args.self.now c.requires.left _ t a c.in_err-close.ensures.err)

pub returns-clause-turns : goal.returns-clause-turns
returns-clause-turns g c = λ o i u a.
    let t = g.T.Tapes.tapes c.close.new.tapes in
    c.spend.ensures.turns o i u t
    (close-ahead c.args.self.now a c.close.new.self t c.in_ok-close.ensures.ok
    (c.in_ok-close.ensures.mirrors a.run.opened a.run.mirrors)
    _ (gives-unit _ c.in_ok-unit.ensures refl))
