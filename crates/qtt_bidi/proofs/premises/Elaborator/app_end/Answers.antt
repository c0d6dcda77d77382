use Rattle.std.proofs.Common.{◌∙◌, ap}
use Rattle.qtt_usage.specs.Usage.{usage_sum}
use Rattle.qtt_term.specs.Substitution.{inst}
use Rattle.qtt_term.specs.View.{term}
use Rattle.qtt_bidi.proofs.Within.{same-judged}
use Rattle.qtt_bidi.proofs.premises.Elaborator.app_end.Goals as goal

pub returns-clause-gives : goal.returns-clause-gives
returns-clause-gives g c =
    same-judged
    (c.in_ok-ty.ensures ∙ ap (λ a. inst (term c.args.codomain) a) c.in_ok-copy.ensures)
    c.in_ok-core.ensures
    (c.add.ensures.uses ∙ ap (λ w. usage_sum c.args.left.uses w) c.scale.ensures.uses)
