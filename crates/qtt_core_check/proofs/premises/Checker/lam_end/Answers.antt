use Rattle.std.proofs.Common.{sym, ◌∙◌, ap}
use Rattle.qtt_term.specs.Term.{Pi}
use Rattle.qtt_term.specs.View.{term}
use Rattle.qtt_term.specs.Contexts.{part}
use Rattle.qtt_term.specs.Infer.{inferred}
use Rattle.qtt_core_check.proofs.Functions.{lam-fit, lam-unfit}
use Rattle.qtt_core_check.proofs.Within.{reached}
use Rattle.qtt_core_check.proofs.premises.Checker.lam_end.Goals as goal

pub returns-then-not-fitting-clause-gives : goal.returns-then-not-fitting-clause-gives
returns-then-not-fitting-clause-gives g c =
    lam-unfit (part c.args.sigma) c.args.mult (term c.args.domain.now) (term c.args.body.now)
    (term c.args.inner.ty) c.pop-used.result c.pop-used.new.self c.args.inner.uses
    c.pop-used.ensures (sym c.fitting.ensures ∙ c.if-not-fitting.true)

pub returns-clause-gives : goal.returns-clause-gives
returns-clause-gives g c =
    reached
    (lam-fit (part c.args.sigma) c.args.mult (term c.args.domain.now) (term c.args.body.now)
    (term c.args.inner.ty) c.pop-used.result c.pop-used.new.self c.args.inner.uses
    c.pop-used.ensures (sym c.fitting.ensures ∙ c.if-not-fitting.false))
    (ap (λ A. inferred A c.pop-used.new.self)
    (sym (c.in_ok-ty.ensures ∙ ap (λ A. Pi c.args.mult A (term c.args.inner.ty)) c.in_ok-copy.ensures)))
