use Rattle.std.proofs.Common.{◌≡◌, ◌∙◌, ◌+◌, ◌++◌, [], ◌∷◌, ℕ, List, true, false, sym, ap, subst, arith, slice_index, refl}
use Rattle.std.proofs.lemmas.Grind.{common_steps}
use Rattle.qtt_usage.specs.declared.mult.Mult.{Mult}
use Rattle.qtt_term.specs.Judgement.{mult_at}
use Rattle.qtt_unify.specs.View.{binders}
use Rattle.qtt_split.specs.Reverting.{goes_along}
use Rattle.qtt_split.proofs.Reverted.{RevertedSoFar, one-reverted, not-reverted}
use Rattle.qtt_split.proofs.reverting.reverted.Goals.{then-branch+in_ok-push+in_ok-push-2, else-branch}
use Rattle.qtt_split.proofs.reverting.reverted.Goals as goal

pub loop-variable-preserved : goal.loop-variable-preserved
loop-variable-preserved c =
    let Γ = binders c.args.context.now in
    let stay = c.args.stay.now in
    let vs = c.args.variables.now in
    let i = c.loop-variable.variable-index in
    let xs = c.loop-variable.changed.items in
    let found = c.loop-variable.found.items in
    let v = slice_index vs i in
    let test : c.in_ok-is_reverted.field-0 ≡ goes_along Γ stay xs v =
    c.in_ok-is_reverted.ensures ∙ ap (λ ys. goes_along Γ stay ys v) c.deref.ensures.value in
    let So : List (Mult × ℕ) → List ℕ → Type 0 =
    λ rs ys. RevertedSoFar Γ stay c.args.touched.now vs (i + 1) rs ys in
    elim c.if-branch.branch [
      | then-branch+in_ok-push+in_ok-push-2 w ↦
          let first : c.if-branch.found.items ≡ found ++ (mult_at Γ v, v) ∷ [] =
          grind (arith, common_steps, w.found-is, w.in_ok-push.ensures.items, w.mult_at.ensures) in
          let second : c.if-branch.changed.items ≡ xs ++ v ∷ [] =
          grind (arith, common_steps, w.changed-is, w.in_ok-push-2.ensures.items) in
          let along : goes_along Γ stay xs v ≡ true = sym test ∙ w.if-branch.true in
          subst (λ rs. So rs c.if-branch.changed.items) (sym first)
          (subst (λ ys. So (found ++ (mult_at Γ v, v) ∷ []) ys) (sym second)
          (one-reverted Γ stay c.args.touched.now vs i found xs v 0 c.loop-variable-test.true refl along
          c.loop-variable.invariant))
      | else-branch w ↦
          let first : c.if-branch.found.items ≡ found = grind (arith, common_steps, w.found-is) in
          let second : c.if-branch.changed.items ≡ xs = grind (arith, common_steps, w.changed-is) in
          let stays : goes_along Γ stay xs v ≡ false = sym test ∙ w.if-branch.false in
          subst (λ rs. So rs c.if-branch.changed.items) (sym first)
          (subst (λ ys. So found ys) (sym second)
          (not-reverted Γ stay c.args.touched.now vs i found xs v 0 c.loop-variable-test.true refl stays
          c.loop-variable.invariant))
    ]
