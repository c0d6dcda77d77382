use Rattle.std.proofs.Common.{ap, not}
use Rattle.std.proofs.lemmas.Bool.{lt-ltb, le-ltb}
use Rattle.qtt_bidi.proofs.Within.{on, on_done, here, later, passed, holds, unmet, fails_here, fails_later}
use Rattle.qtt_module.proofs.declarer.Declarer.field_type.Goals as goal

pub returns-in_err-found : goal.returns-in_err-found
returns-in_err-found g c =
    passed _ _ _ _ c.from_residual.result c.in_err-found.field-0.0 c.from_residual.ensures.1
    (here _ _ _ _ _ c.in_err-found.ensures)

pub returns-then-found-level : goal.returns-then-found-level
returns-then-found-level g c =
    fails_later _ c.in_ok-found.ensures
    (fails_here _ (unmet _ _ _ (ap not (lt-ltb c.args.level c.in_ok-found.found.level c.if-found-level.true))))

pub returns-in_err-accepted : goal.returns-in_err-accepted
returns-in_err-accepted g c =
    passed _ _ _ _ c.from_residual-in_err-accepted.result c.in_err-accepted.field-0.0
    c.from_residual-in_err-accepted.ensures.1
    (later _ _ _ _ _ c.in_ok-found.ensures
    (later _ _ _ _ _ (holds _ _ _ (ap not (le-ltb c.args.level c.in_ok-found.found.level c.if-found-level.false)))
    (here _ _ _ _ _ (rw c.first_token.ensures at c.in_err-accepted.ensures))))

pub returns : goal.returns
returns g c =
    on _ c.in_ok-found.ensures
    (on _ (holds _ _ _ (ap not (le-ltb c.args.level c.in_ok-found.found.level c.if-found-level.false)))
    (on _ (rw c.first_token.ensures at c.in_ok-accepted.ensures) on_done))
