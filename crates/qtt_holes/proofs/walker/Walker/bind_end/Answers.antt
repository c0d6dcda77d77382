use Rattle.qtt_bidi.proofs.Within as within
use Rattle.qtt_holes.proofs.walker.Walker.bind_end.Goals as goal

pub returns-in_err-passed-clause-gives : goal.returns-in_err-passed-clause-gives
returns-in_err-passed-clause-gives g c =
    within.passed _ _ _ _ c.from_residual.result c.in_err-passed.field-0.0 c.from_residual.ensures.1
    (rw c.bound_place-span.ensures at c.in_err-passed.ensures.gives)

pub returns-clause-gives : goal.returns-clause-gives
returns-clause-gives g c = rw c.bound_place-span.ensures at c.in_ok-passed.ensures.gives

pub returns-clause-stands : goal.returns-clause-stands
returns-clause-stands g c = λ w s. c.used_too.ensures.stands _ (c.in_ok-passed.ensures.stands w s)
