use Rattle.std.proofs.Common.{sym, ap, ◌∙◌}
use Rattle.qtt_term.specs.View.{term}
use Rattle.qtt_envconv.specs.Closures.{values, referent}
use Rattle.qtt_envconv.proofs.Openings.{opened-means}
use Rattle.qtt_envconv.proofs.closure.Closure.opened.Goals as goal

pub returns-in_ok-parts-in-Some-clause-means : goal.returns-in_ok-parts-in-Some-clause-means
returns-in_ok-parts-in-Some-clause-means c =
    let closure = c.in-Closure.closure in
    opened-means (term closure.code.now) (values closure.values.now) c.in-Some.shape
    c.in_ok-parts-in-Some.field-0.items c.in-Some.ensures.shaped c.in_ok-parts-in-Some.ensures.means
    ∙ ap referent (sym c.in-Closure.is) ∙ c.in_ok-index.ensures.means

pub returns-in_ok-parts-in-Some-clause-ready : goal.returns-in_ok-parts-in-Some-clause-ready
returns-in_ok-parts-in-Some-clause-ready c = λ E. c.in_ok-parts-in-Some.ensures.ready E
