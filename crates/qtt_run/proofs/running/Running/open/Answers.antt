use Rattle.std.proofs.Common.{◌∙◌, refl, ap, length}
use Rattle.qtt_run.specs.CodeRun.{pure_handle}
use Rattle.qtt_run.specs.Stop.{tape_failure}
use Rattle.qtt_run.proofs.Stepping.{turn-failed, open-ahead, open-broken, ahead-broken, few-handles, tapes-room}
use Rattle.qtt_run.proofs.Valued.{gives-handle}
use Rattle.qtt_run.proofs.running.Running.open.Goals as goal

pub open-requires-clause-few : goal.open-requires-clause-few
open-requires-clause-few g c = few-handles c.requires.at.3.run

pub open-requires-clause-room : goal.open-requires-clause-room
open-requires-clause-room g c = tapes-room c.requires.at.3.run

pub returns-in_err-place-clause-turns : goal.returns-in_err-place-clause-turns
returns-in_err-place-clause-turns g c = λ o i u a.
    let t = g.T.Tapes.tapes c.open.new.tapes in
    turn-failed tape_failure o _ _ i u t c.from_residual.result c.from_residual.ensures.1
    (open-broken c.args.self.now c.requires.left _ t a c.in_err-place.ensures.err)

pub returns-in_err-handle-clause-turns : goal.returns-in_err-handle-clause-turns
returns-in_err-handle-clause-turns g c = λ o i u a.
    let t = g.T.Tapes.tapes c.open.new.tapes in
    turn-failed tape_failure o _ _ i u t c.from_residual-in_err-handle.result c.from_residual-in_err-handle.ensures.1
    (ahead-broken c.args.self.now _ a
    (open-ahead c.args.self.now a c.open.new.self t c.in_ok-place.ensures.ok
    (c.in_ok-place.ensures.mirrors a.run.opened a.run.mirrors)
    (pure_handle (length a.run.opened)) refl)
    c.requires.left refl)

pub returns-clause-turns : goal.returns-clause-turns
returns-clause-turns g c = λ o i u a.
    let t = g.T.Tapes.tapes c.open.new.tapes in
    c.spend.ensures.turns o i u t
    (open-ahead c.args.self.now a c.open.new.self t c.in_ok-place.ensures.ok
    (c.in_ok-place.ensures.mirrors a.run.opened a.run.mirrors)
    _ (gives-handle c.in_ok-place.place c.in_ok-handle.ensures ∙ ap pure_handle
    (c.in_ok-place.ensures.place a.run.opened a.run.mirrors)))
