use Rattle.std.proofs.Common.{sym, refl}
use Rattle.qtt_bidi.proofs.Within.{on, on_done, here, passed, reached, same-judged}
use Rattle.qtt_bidi.proofs.premises.Elaborator.checked_lambda.Goals as goal

pub returns-in_err-uses-clause-gives : goal.returns-in_err-uses-clause-gives
returns-in_err-uses-clause-gives g c =
    passed _ _ _ _ c.from_residual.result c.in_err-uses.field-0.0 c.from_residual.ensures.1
    (here _ _ _ _ _ (rw (c.binder_name-name.ensures, c.binder_place-span.ensures) at c.in_err-uses.ensures.gives))

pub returns-clause-gives : goal.returns-clause-gives
returns-clause-gives g c =
    reached (on _ (rw (c.binder_name-name.ensures, c.binder_place-span.ensures) at c.in_ok-uses.ensures.gives) on_done)
    (same-judged refl (sym c.in_ok-core.ensures) (sym c.in_ok-uses.ensures.rest))
