use Rattle.std.proofs.Common.{◌≡◌, ◌∙◌, ◌+◌, ◌-◌, ◌++◌, suc, [], ◌∷◌, ap, sym, rules, arith}
use Rattle.qtt_term.specs.declared.term.Term.TheVariants as form
use Rattle.qtt_term.specs.Term.{var, ◌+++◌}
use Rattle.qtt_term.specs.Substitution.{above}
use Rattle.qtt_term.specs.View.{term}
use Rattle.qtt_term.proofs.Binders.{var-seen}
use Rattle.qtt_unify.specs.View.{all_terms}
use Rattle.qtt_split.proofs.Waying.{one-above, all-above}
use Rattle.qtt_split.proofs.constructors.above.Goals as goal

pub loop-place-preserved : goal.loop-place-preserved
loop-place-preserved c =
    let m = c.args.newest in
    let k = c.loop-place.place - 1 in
    let vs = c.loop-place.variables.items in
    let v = form.Var c.in_ok-sum.field-0 in
    let e : c.loop-place.place ≡ suc k = omega (arith, c.loop-place-test.true) in
    let one : term v ≡ var (m + k) = var-seen c.in_ok-sum.field-0 ∙ ap var c.in_ok-sum.ensures in
    let now : c.push.new.self.items ≡ vs ++ v ∷ [] = search rules in
    c.loop-place.invariant ∙
    ap (λ j. all_terms vs +++ above m j) e ∙
    one-above m k vs v one ∙
    ap (λ xs. all_terms xs +++ above m k) (sym now)

pub returns : goal.returns
returns c =
    let vs = c.loop-place.variables.items in
    let e : c.loop-place.place ≡ 0 = omega (arith, c.loop-place-test.false) in
    all-above c.args.newest c.args.count vs
    (c.loop-place.invariant ∙ ap (λ j. all_terms vs +++ above c.args.newest j) e)
