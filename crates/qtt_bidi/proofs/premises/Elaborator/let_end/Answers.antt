use Rattle.std.proofs.Common.{◌∙◌, sym, ap}
use mathlib.Core.Path.{ap₂}
use Rattle.qtt_usage.specs.Usage.{usage_sum}
use Rattle.qtt_term.specs.Term.{App}
use Rattle.qtt_term.specs.View.{term}
use Rattle.qtt_bidi.proofs.Within.{on, on_done, here, passed, reached, same-judged}
use Rattle.qtt_bidi.proofs.premises.Elaborator.let_end.Goals as goal

pub returns-in_err-uses-clause-gives : goal.returns-in_err-uses-clause-gives
returns-in_err-uses-clause-gives g c =
    passed _ _ _ _ c.from_residual.result c.in_err-uses.field-0.0 c.from_residual.ensures.1
    (here _ _ _ _ _ c.in_err-uses.ensures.gives)

pub returns-clause-gives : goal.returns-clause-gives
returns-clause-gives g c =
    reached (on _ c.in_ok-uses.ensures.gives on_done)
    (same-judged (sym c.in_ok-ty.ensures)
    (sym (c.in_ok-core.ensures ∙ ap (λ f. App c.args.binding.mult f (term c.args.value.core)) c.in_ok-function.ensures))
    (sym (c.add.ensures.uses ∙ ap₂ usage_sum c.in_ok-uses.ensures.rest c.scale.ensures.uses)))
