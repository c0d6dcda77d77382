use Rattle.std.proofs.Common.{◌∙◌, sym, refl, ap}
use Rattle.qtt_usage.specs.Usage.{usage_sum}
use Rattle.qtt_bidi.proofs.Within.{on, on_done, here, passed, reached, same-judged}
use Rattle.qtt_bidi.proofs.premises.Elaborator.bind_end.Goals as goal

pub returns-in_err-more-clause-gives : goal.returns-in_err-more-clause-gives
returns-in_err-more-clause-gives g c =
    passed _ _ _ _ c.from_residual.result c.in_err-more.field-0.0 c.from_residual.ensures.1
    (here _ _ _ _ _ (rw (c.mult_after-mult.ensures, c.bound_place-span.ensures) at c.in_err-more.ensures.gives))

pub returns-clause-gives : goal.returns-clause-gives
returns-clause-gives g c =
    reached
    (on _ (rw (c.mult_after-mult.ensures, c.bound_place-span.ensures) at c.in_ok-more.ensures.gives) on_done)
    (same-judged refl (sym c.in_ok-core.ensures)
    (sym (c.add.ensures.uses ∙ ap (λ w. usage_sum c.args.action.uses w) c.in_ok-more.ensures.rest)))
