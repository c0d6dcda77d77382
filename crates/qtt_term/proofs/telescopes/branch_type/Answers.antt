use Rattle.std.proofs.Common.{◌≡◌, ◌∙◌, map, length, rules, refl, sym, ap}
use Rattle.std.proofs.lemmas.List.{length-map}
use Rattle.qtt_term.specs.Substitution.{ren, sub, lifts}
use Rattle.qtt_term.specs.Shift.{raised, values_in}
use Rattle.qtt_term.specs.Signature.{con_sig}
use Rattle.qtt_term.specs.Judgement.{branch_type}
use Rattle.qtt_term.specs.View.{term, terms, side_by_side}
use Rattle.qtt_term.specs.Items.{constructor, field}
use Rattle.qtt_term.specs.Telescopes.{filled}
use Rattle.qtt_term.proofs.Binders.{if-ok, branch-seen}
use Rattle.qtt_term.proofs.telescopes.branch_type.Goals as goal

pub returns : goal.returns
returns c =
    let vs = c.in_ok-values.values.items in
    let ts = c.in_ok-targets.targets.items in
    let fields = c.args.constructor.now.fields.items in
    let n = length (map field fields) in
    let l : length fields ≡ n = sym (length-map fields field) in
    let P = term c.args.motive.now in
    let σ = filled c.args.params.now in
    let d = con_sig c.args.con.family c.args.count c.args.con.place (constructor c.args.constructor.now) in
    let f : filled c.in_ok-inner.inner.items ≡ lifts (length fields) σ = search rules in
    let e : terms vs ≡ map (sub (filled c.in_ok-inner.inner.items)) (terms ts) = search rules in
    let t : side_by_side (terms ts) ≡ d.targets = search rules in
    let r : term c.in_ok-raised.raised ≡ ren (raised (length vs) (length fields)) P = search rules in
    if-ok (λ t. term t ≡ sub (values_in (terms vs)) (term c.in_ok-raised.raised))
    (λ t. term t ≡ branch_type σ d P) c.subst.result
    (λ v h. h ∙ ap (sub (values_in (terms vs))) (r ∙ ap (λ k. ren (raised (length vs) k) P) l)
    ∙ branch-seen vs (lifts n σ) ts d.targets (length vs) n P
    (e ∙ ap (λ τ. map (sub τ) (terms ts)) (f ∙ ap (λ k. lifts k σ) l)) t refl)
    (search rules)
