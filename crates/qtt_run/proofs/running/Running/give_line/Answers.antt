use Rattle.std.proofs.Common.{sym, subst}
use Rattle.qtt_run.specs.CodeRun.{Now}
use Rattle.qtt_run.specs.Underway.{Ahead}
use Rattle.qtt_run.specs.Stop.{memory_failure}
use Rattle.qtt_run.proofs.Stepping.{turn-failed}
use Rattle.qtt_run.proofs.running.Running.give_line.Goals as goal

pub returns-then-self-eq0-clause-turns : goal.returns-then-self-eq0-clause-turns
returns-then-self-eq0-clause-turns c = λ o i u t a. a.bound c.if-self-eq0.true

pub returns-in_err-next-clause-turns : goal.returns-in_err-next-clause-turns
returns-in_err-next-clause-turns c = λ o i u t a.
    turn-failed memory_failure o _ _ i u t c.from_residual.result c.from_residual.ensures.1 a.broken

pub returns-clause-turns : goal.returns-clause-turns
returns-clause-turns c = λ o i u t a.
    c.spend.ensures.turns o i u t
    (subst (λ v. Ahead o (Now.gave v) c.args.self.now i u t) (sym c.in_ok-next.ensures) a.ahead)
