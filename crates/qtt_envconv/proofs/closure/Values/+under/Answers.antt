-- One binder more.
use Rattle.std.proofs.Common.{◌≡◌, ◌∙◌, suc, ap, sym, arith}
use Rattle.std.proofs.lemmas.Result.{IfOk-weaker}
use Rattle.qtt_term.specs.Substitution.{lifts}
use Rattle.qtt_envconv.specs.Closures.{values}
use Rattle.qtt_envconv.proofs.closure.Values.+under.Goals as goal

pub under-requires : goal.under-requires
under-requires t c = (omega (arith, c.decreases), tt)

pub returns-in_ok-placed-in-Some : goal.returns-in_ok-placed-in-Some
returns-in_ok-placed-in-Some t c =
    let e : c.args.binders ≡ suc c.in-Some.fewer = omega arith in
    let here = values c.args.self.now in
    IfOk-weaker c.under.result _ _
    (λ r is. is ∙ ap (λ v. lifts c.in-Some.fewer (values v)) c.in_ok-placed-in-Some.ensures
    ∙ ap (λ n. lifts n here) (sym e))
    c.under.ensures
