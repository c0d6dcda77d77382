use Rattle.std.proofs.Common.{subst}
use Rattle.qtt_run.specs.Deed.{AsksEffect}
use Rattle.qtt_run.specs.Stop.{failure}
use Rattle.qtt_run.proofs.Asked.{at-value}
use Rattle.qtt_run.proofs.Stepping.{turn-failed}
use Rattle.qtt_run.proofs.running.Running.do_effect.Goals as goal

pub open-requires-clause-at : goal.open-requires-clause-at
open-requires-clause-at g c =
    let (o, v, i, e, a) = c.requires.at in
    (o, i, _, at-value c.args.self.now (subst (AsksEffect v) c.in-Open.is e) a)

pub write-requires-clause-at : goal.write-requires-clause-at
write-requires-clause-at g c =
    let (o, v, i, e, a) = c.requires.at in
    (o, i, _, at-value c.args.self.now (subst (AsksEffect v) c.in-Write.is e) a)

pub close-requires-clause-at : goal.close-requires-clause-at
close-requires-clause-at g c =
    let (o, v, i, e, a) = c.requires.at in
    (o, i, _, at-value c.args.self.now (subst (AsksEffect v) c.in-Close.is e) a)

pub returns-in_err-bind-in-Bind-clause-turns : goal.returns-in_err-bind-in-Bind-clause-turns
returns-in_err-bind-in-Bind-clause-turns g c = λ o v i e a.
    let (m, n, q) = subst (AsksEffect v) c.in-Bind.is e in
    turn-failed failure o _ _ i _ _ c.from_residual.result c.from_residual.ensures.1
    (c.in_err-bind-in-Bind.ensures.turns o m n i _ _ (at-value c.args.self.now q a))

pub returns-in_ok-bind-in-Bind-clause-turns : goal.returns-in_ok-bind-in-Bind-clause-turns
returns-in_ok-bind-in-Bind-clause-turns g c = λ o v i e a.
    let (m, n, q) = subst (AsksEffect v) c.in-Bind.is e in
    c.in_ok-bind-in-Bind.ensures.turns o m n i _ _ (at-value c.args.self.now q a)

pub returns-in_err-put_line-in-PutLine-clause-turns : goal.returns-in_err-put_line-in-PutLine-clause-turns
returns-in_err-put_line-in-PutLine-clause-turns g c = λ o v i e a.
    turn-failed failure o _ _ i _ _ c.from_residual-in_err-put_line-in-PutLine.result
    c.from_residual-in_err-put_line-in-PutLine.ensures.1
    (c.in_err-put_line-in-PutLine.ensures.turns o i _
    (at-value c.args.self.now (subst (AsksEffect v) c.in-PutLine.is e) a))

pub returns-in_ok-put_line-in-PutLine-clause-turns : goal.returns-in_ok-put_line-in-PutLine-clause-turns
returns-in_ok-put_line-in-PutLine-clause-turns g c = λ o v i e a.
    c.in_ok-put_line-in-PutLine.ensures.turns o i _
    (at-value c.args.self.now (subst (AsksEffect v) c.in-PutLine.is e) a)

pub returns-in_err-open-in-Open-clause-turns : goal.returns-in_err-open-in-Open-clause-turns
returns-in_err-open-in-Open-clause-turns g c = λ o v i e a.
    turn-failed failure o _ _ i _ _ c.from_residual-in_err-open-in-Open.result
    c.from_residual-in_err-open-in-Open.ensures.1
    (c.in_err-open-in-Open.ensures.turns o i _ (at-value c.args.self.now (subst (AsksEffect v) c.in-Open.is e) a))

pub returns-in_ok-open-in-Open-clause-turns : goal.returns-in_ok-open-in-Open-clause-turns
returns-in_ok-open-in-Open-clause-turns g c = λ o v i e a.
    c.in_ok-open-in-Open.ensures.turns o i _ (at-value c.args.self.now (subst (AsksEffect v) c.in-Open.is e) a)

pub returns-in_err-write-in-Write-clause-turns : goal.returns-in_err-write-in-Write-clause-turns
returns-in_err-write-in-Write-clause-turns g c = λ o v i e a.
    turn-failed failure o _ _ i _ _ c.from_residual-in_err-write-in-Write.result
    c.from_residual-in_err-write-in-Write.ensures.1
    (c.in_err-write-in-Write.ensures.turns o i _ (at-value c.args.self.now (subst (AsksEffect v) c.in-Write.is e) a))

pub returns-in_ok-write-in-Write-clause-turns : goal.returns-in_ok-write-in-Write-clause-turns
returns-in_ok-write-in-Write-clause-turns g c = λ o v i e a.
    c.in_ok-write-in-Write.ensures.turns o i _ (at-value c.args.self.now (subst (AsksEffect v) c.in-Write.is e) a)

pub returns-in_err-close-in-Close-clause-turns : goal.returns-in_err-close-in-Close-clause-turns
returns-in_err-close-in-Close-clause-turns g c = λ o v i e a.
    turn-failed failure o _ _ i _ _ c.from_residual-in_err-close-in-Close.result
    c.from_residual-in_err-close-in-Close.ensures.1
    (c.in_err-close-in-Close.ensures.turns o i _ (at-value c.args.self.now (subst (AsksEffect v) c.in-Close.is e) a))

pub returns-in_ok-close-in-Close-clause-turns : goal.returns-in_ok-close-in-Close-clause-turns
returns-in_ok-close-in-Close-clause-turns g c = λ o v i e a.
    c.in_ok-close-in-Close.ensures.turns o i _ (at-value c.args.self.now (subst (AsksEffect v) c.in-Close.is e) a)
