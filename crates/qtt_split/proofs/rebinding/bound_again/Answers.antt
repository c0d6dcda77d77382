use Rattle.std.proofs.Common.{◌∙◌, ◌+◌, ap, subst, sym}
use Rattle.qtt_usage.specs.Mult.{𝟘}
use Rattle.qtt_term.specs.Substitution.{sub}
use Rattle.qtt_unify.specs.View.{binders}
use Rattle.qtt_split.specs.Substitution.{stands_for}
use Rattle.qtt_split.proofs.Rebound.{ReboundSoFar, one-rebound, all-rebound, all-stand}
use Rattle.qtt_split.proofs.rebinding.bound_again.Goals as goal

pub loop-mult-preserved : goal.loop-mult-preserved
loop-mult-preserved c =
    let Γ = binders c.args.context.now in
    let rs = c.args.reverted.now in
    let i = c.loop-mult.mult-index in
    let δ = stands_for c.loop-mult.stands in
    let ε = stands_for c.rebind.new.self in
    subst (λ xs. ReboundSoFar Γ rs (i + 1) (stands_for c.args.stands) ε xs) (sym c.in_ok-push.ensures.items)
    (one-rebound Γ rs i (stands_for c.args.stands) δ ε c.loop-mult.again.items (𝟘, 0) c.in_ok-apply.field-0
    c.loop-mult-test.true (c.in_ok-apply.ensures ∙ ap (sub δ) c.in_ok-ty.ensures) c.in_ok-rebind.ensures
    c.loop-mult.invariant)

pub returns : goal.returns
returns c = record {
  again =
      all-rebound (binders c.args.context.now) c.args.reverted.now c.loop-mult.mult-index (stands_for c.args.stands)
      (stands_for c.loop-mult.stands) c.loop-mult.again.items c.loop-mult-test.false c.loop-mult.invariant;
  stands =
      all-stand (binders c.args.context.now) c.args.reverted.now c.loop-mult.mult-index (stands_for c.args.stands)
      (stands_for c.loop-mult.stands) c.loop-mult.again.items c.loop-mult-test.false c.loop-mult.invariant;
}
