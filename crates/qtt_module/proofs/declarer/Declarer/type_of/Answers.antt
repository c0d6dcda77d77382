use Rattle.qtt_bidi.proofs.Within.{on, on_done, here, later, passed}
use Rattle.qtt_module.proofs.declarer.Declarer.type_of.Goals as goal

pub returns-in_err-found : goal.returns-in_err-found
returns-in_err-found g c =
    passed _ _ _ _ c.from_residual.result c.in_err-found.field-0.0 c.from_residual.ensures.1
    (here _ _ _ _ _ c.in_err-found.ensures)

pub returns-in_err-accepted : goal.returns-in_err-accepted
returns-in_err-accepted g c =
    passed _ _ _ _ c.from_residual-in_err-accepted.result c.in_err-accepted.field-0.0
    c.from_residual-in_err-accepted.ensures.1
    (later _ _ _ _ _ c.in_ok-found.ensures
    (here _ _ _ _ _ (rw c.first_token.ensures at c.in_err-accepted.ensures)))

pub returns : goal.returns
returns g c =
    on _ c.in_ok-found.ensures (on _ (rw c.first_token.ensures at c.in_ok-accepted.ensures) on_done)
