use Rattle.std.proofs.Common.{sym, subst, eqb}
use Rattle.std.proofs.lemmas.Bool.{eq-eqb, ne_eqb}
use Rattle.qtt_rules.specs.Asks.{need}
use Rattle.qtt_rules.specs.Refusal.{Cause}
use Rattle.qtt_split.specs.Answers.{Refuses}
use Rattle.qtt_split.specs.Calls.{test_of}
use Rattle.qtt_split.specs.Tests.{at}
use Rattle.qtt_split.proofs.Within.{holds, unmet}
use Rattle.qtt_split.proofs.planner.counted.Goals as goal

pub returns-then-found-expected : goal.returns-then-found-expected
returns-then-found-expected c = λ E n. holds _ _ _ (eq-eqb _ _ c.if-found-expected.true)

pub returns : goal.returns
returns c =
    let k = c.args.expected in
    let m = c.args.found in
    let cause = Cause.wrong_arity k m in
    let place = at c.args.span (test_of c.args.test) in
    λ E n. subst (λ e. Refuses E n (need (eqb m k) cause place) e) (sym c.refused.ensures)
    (unmet {E = E} {n = n} (eqb m k) cause place (ne_eqb m k c.if-found-expected.false))
