use Rattle.std.proofs.Common.{◌≡◌, ◌∙◌, length, map, ap, subst}
use Rattle.qtt_term.specs.View.{term}
use Rattle.qtt_term.proofs.Binders.{if-ok}
use Rattle.qtt_unify.specs.View.{all_terms}
use Rattle.qtt_split.specs.Motive.{motive}
use Rattle.qtt_split.specs.Ways.{aim_of, frame_of, way_of, step_of, begun, all_steps, wrapped, Leads}
use Rattle.qtt_split.proofs.Motives.{motive-wrapped}
use Rattle.qtt_split.proofs.motive.motive.Goals as goal

pub returns : goal.returns
returns c =
    let a = aim_of c.args.aim.now in
    let ts = c.args.targets.now in
    let x = c.args.variable in
    let t = term c.args.goal.now in
    let n = c.in_ok-number.field-0 in
    let fs = map frame_of c.in_ok-passed.passed.frames.items in
    let v = way_of c.in_ok-passed.passed.way in
    let inner = term c.in_ok-inner.inner in
    let count : n ≡ length ts = c.in_ok-number.ensures in
    let leads : Leads a (all_steps (all_terms ts) 0) (begun n) fs v =
    subst (λ ss. Leads a ss (begun n) fs v) (ap (map step_of) c.deref.ensures.value ∙ c.in_ok-steps.ensures)
    (subst (λ w. Leads a (map step_of c.deref.result.now) w fs v) c.in_ok-begun.ensures c.in_ok-passed.ensures) in
    if-ok (λ u. term u ≡ wrapped a (map frame_of c.deref-2.result.now) inner)
    (λ u. term u ≡ motive a (all_terms ts) x t) c.wrapped.result
    (λ u h. h ∙
    ap (λ ys. wrapped a (map frame_of ys) inner) c.deref-2.ensures.value ∙
    ap (wrapped a fs) c.in_ok-inner.ensures ∙
    motive-wrapped a ts n x t fs v count leads)
    c.wrapped.ensures
