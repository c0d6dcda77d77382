use Rattle.qtt_bidi.proofs.Within.{on, on_done, here, later, passed}
use Rattle.qtt_module.proofs.groups.Group.core_at.Goals as goal

pub returns-in_err-found : goal.returns-in_err-found
returns-in_err-found g c =
    passed _ _ _ _ c.from_residual.result c.in_err-found.field-0.0 c.from_residual.ensures.1
    (here _ _ _ _ _ c.in_err-found.ensures.gives)

pub returns-in_err-uses_fit : goal.returns-in_err-uses_fit
returns-in_err-uses_fit g c =
    passed _ _ _ _ c.from_residual-in_err-uses_fit.result c.in_err-uses_fit.field-0.0
    c.from_residual-in_err-uses_fit.ensures.1
    (later _ _ _ _ _ c.in_ok-found.ensures.gives (here _ _ _ _ _ c.in_err-uses_fit.ensures))

pub returns : goal.returns
returns g c = on _ c.in_ok-found.ensures.gives (on _ c.in_ok-uses_fit.ensures on_done)
