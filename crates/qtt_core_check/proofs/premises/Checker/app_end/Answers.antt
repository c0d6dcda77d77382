use Rattle.std.proofs.Common.{◌∙◌, ap}
use mathlib.Core.Path.{ap₂}
use Rattle.qtt_usage.specs.Usage.{usage_sum}
use Rattle.qtt_term.specs.Substitution.{inst}
use Rattle.qtt_term.specs.View.{term}
use Rattle.qtt_term.specs.Infer.{inferred}
use Rattle.qtt_core_check.proofs.premises.Checker.app_end.Goals as goal

pub returns-clause-gives : goal.returns-clause-gives
returns-clause-gives g c =
    ap₂ inferred (c.in_ok-ty.ensures ∙ ap (λ a. inst (term c.args.pi.codomain) a) c.in_ok-value.ensures)
    (c.add.ensures.uses ∙ ap (λ w. usage_sum c.args.left.uses w) c.scale.ensures.uses)
