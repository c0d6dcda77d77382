use Rattle.std.proofs.Common.{◌≡◌, ◌∙◌, ◌+◌, ℕ, suc, length, map, ap, sym, rules, arith}
use Rattle.qtt_usage.specs.Mult.{𝟘}
use Rattle.qtt_term.specs.declared.term.Term.{the_lemmas}
use Rattle.qtt_term.specs.declared.term.Term.TheVariants as form
use Rattle.qtt_term.specs.Term.{Form, Term, var, node, ε, ◌▸◌, size, ◌+++◌, Sort, Pi, App}
use Rattle.qtt_term.specs.View.{term, terms, side_by_side, branches}
use Rattle.qtt_term.proofs.Binders.{if-ok, var-seen}
use Rattle.qtt_term.proofs.Shaped.{size_side_by_side}
use Rattle.qtt_unify.specs.View.{all_terms}
use Rattle.qtt_split.specs.Branch.{raised}
use Rattle.qtt_split.specs.Motive.{scrutinee_type, indices_with}
use Rattle.qtt_split.specs.Ways.{aim_of, frame_of, case_in}
use Rattle.qtt_split.proofs.Framing.{case-seen}
use Rattle.qtt_split.proofs.Waying.{size-raised}
use Rattle.qtt_split.proofs.frames.case_in.Goals as goal

pub returns : goal.returns
returns c =
    let a = aim_of c.args.aim.now in
    let f = frame_of c.args.frame.now in
    let b = term c.args.body.now in
    let e = f.con.family in
    let ps = terms c.in_ok-raised.field-0.items in
    let bs = branches c.in_ok-branches_in.field-0.items in
    let M = term c.in_ok-pi.field-0 in
    let A = term c.in_ok-ty.ty in
    let p = c.first_place.result in
    let x = f.way.scrutinee in
    let seen : term (form.Case c.in_ok-new.field-0) ≡ node (Form.case 𝟘 e (length ps) (0 + 1) (map (λ y. y.0) bs))
    (side_by_side ps +++ (M ▸ (side_by_side (map (λ y. y.1) bs) +++ (var p ▸ ε)))) = search (rules, the_lemmas) in
    let level : term (form.Sort a.level) ≡ Sort a.level = search (rules, the_lemmas) in
    let params : side_by_side ps ≡ raised f.way.depth f.params = c.in_ok-raised.ensures in
    let count : length ps ≡ size f.params =
    sym (size_side_by_side ps) ∙ ap size params ∙ size-raised f.way.depth f.params in
    let depth : c.in_ok-sum.field-0 ≡ suc f.way.depth = omega (arith, c.in_ok-sum.ensures) in
    let type : A ≡ scrutinee_type a.family a.params (suc f.way.depth) (indices_with 1 (var 0) f.way) =
    c.in_ok-ty.ensures ∙
    ap (λ n. scrutinee_type a.family a.params n (all_terms c.in_ok-indices.indices.items)) depth ∙
    ap (scrutinee_type a.family a.params (suc f.way.depth))
    (c.in_ok-indices.ensures ∙ ap (λ t. indices_with 1 t f.way) (var-seen 0)) in
    let whole : Term → Term = λ t. App 𝟘 t (var x) in
    let case : Term → ℕ → Term = λ m v. node (Form.case 𝟘 e (length ps) 1 (map (λ y. y.0) bs))
    (side_by_side ps +++ (m ▸ (side_by_side (map (λ y. y.1) bs) +++ (var v ▸ ε)))) in
    if-ok (λ t. term t ≡ App 𝟘 (term (form.Case c.in_ok-new.field-0)) (term (form.Var x)))
    (λ t. term t ≡ case_in a f b) c.app.result
    (λ t h. h ∙
    ap (App 𝟘 (term (form.Case c.in_ok-new.field-0))) (var-seen x) ∙
    ap whole seen ∙
    ap (λ m. whole (case m p)) (c.in_ok-pi.ensures ∙ ap (Pi 𝟘 A) level) ∙
    ap (λ v. whole (case (Pi 𝟘 A (Sort a.level)) v)) c.first_place.ensures ∙
    case-seen a f b (length ps) (side_by_side ps) A (map (λ y. y.0) bs) (side_by_side (map (λ y. y.1) bs)) count params
    type c.in_ok-branches_in.ensures.counts c.in_ok-branches_in.ensures.parts)
    c.app.ensures
