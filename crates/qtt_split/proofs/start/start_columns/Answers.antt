use Rattle.std.proofs.Common.{◌≡◌, ◌∙◌, ◌+◌, ◌-◌, ◌<◌, length, ap, subst, sym, arith}
use Rattle.qtt_syntax.specs.View.{shape_of}
use Rattle.qtt_term.specs.Judgement.{type_at}
use Rattle.qtt_term.specs.Term.{var}
use Rattle.qtt_term.specs.View.{term}
use Rattle.qtt_term.proofs.Binders.{var-seen}
use Rattle.qtt_unify.specs.View.{binders}
use Rattle.qtt_split.specs.Node.{column}
use Rattle.qtt_split.proofs.Living.{length-binders}
use Rattle.qtt_split.proofs.Started.{ColumnsSoFar, one-column}
use Rattle.qtt_split.proofs.start.start_columns.Goals as goal

pub loop-place-preserved : goal.loop-place-preserved
loop-place-preserved c =
    let Γ = binders c.args.context.now in
    let n = length Γ in
    let i = c.loop-place.place in
    let p = c.index-patterns-place.result in
    let v = c.in_ok-variable.variable in
    let ty = c.in_ok-type_at.field-0 in
    let count : length Γ ≡ length c.args.context.now = length-binders c.args.context.now in
    let below : i < n = omega (arith, count, c.if-place-context.false) in
    let place : v ≡ n - 1 - i = c.in_ok-variable.ensures ∙ ap (λ m. m - 1 - i) (sym count) in
    subst (λ xs. ColumnsSoFar Γ c.args.patterns.now n (i + 1) xs) (sym c.in_ok-push.ensures.items)
    (one-column Γ c.args.patterns.now n i c.loop-place.columns.items p _ c.loop-place-test.true
    c.index-patterns-place.is below
    (ap (λ t. column (shape_of p) t (term ty)) (var-seen v ∙ ap var place) ∙
    ap (column (shape_of p) (var (n - 1 - i))) (c.in_ok-type_at.ensures ∙ ap (type_at Γ) place))
    c.loop-place.invariant)
