use Rattle.std.proofs.Common.{refl}
use Rattle.qtt_run.specs.Stop.{sink_failure}
use Rattle.qtt_run.proofs.Stepping.{turn-failed, underway-broken, put-ahead, put-broken}
use Rattle.qtt_run.proofs.Valued.{gives-unit}
use Rattle.qtt_run.proofs.running.Running.put_line.Goals as goal

pub returns-in_err-unit-clause-turns : goal.returns-in_err-unit-clause-turns
returns-in_err-unit-clause-turns g c = λ o i t a.
    turn-failed sink_failure o _ _ i (g.O.Sink.content c.args.out.now) t c.from_residual.result
    c.from_residual.ensures.1 (underway-broken c.args.self.now a)

pub returns-in_err-put_line-clause-turns : goal.returns-in_err-put_line-clause-turns
returns-in_err-put_line-clause-turns g c = λ o i t a.
    let u = g.O.Sink.content c.put_line.new.out in
    turn-failed sink_failure o _ _ i u t c.from_residual-in_err-put_line.result
    c.from_residual-in_err-put_line.ensures.1
    (put-broken c.args.self.now a c.requires.left _ u c.in_err-put_line.ensures.err)

pub returns-clause-turns : goal.returns-clause-turns
returns-clause-turns g c = λ o i t a.
    let u = g.O.Sink.content c.put_line.new.out in
    c.spend.ensures.turns o i u t
    (put-ahead c.args.self.now a u c.in_ok-put_line.ensures.ok _ (gives-unit _ c.in_ok-unit.ensures refl))
