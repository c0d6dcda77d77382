-- Variables that stand for themselves.
use Rattle.std.proofs.Common.{◌∙◌, ap}
use Rattle.qtt_term.specs.Substitution.{sub}
use Rattle.qtt_term.specs.View.{term}
use Rattle.qtt_term.proofs.Subst.{sub-var}
use Rattle.qtt_envconv.specs.Closures.{values}
use Rattle.qtt_envconv.proofs.closure.Closure.of.Goals as goal

pub returns : goal.returns
returns c =
    ap (λ v. sub (values v) (term c.args.code.now)) c.in_ok-values.ensures ∙ sub-var (term c.args.code.now)
