use Rattle.std.proofs.Common.{◌≡◌, ◌+◌, length, map, rules, sym, ap, ◌∙◌, arith}
use Rattle.std.proofs.lemmas.Grind.{common_steps}
use Rattle.qtt_usage.specs.Mult.{𝟘}
use Rattle.qtt_term.specs.declared.term.Term.{the_lemmas}
use Rattle.qtt_term.specs.declared.term.Case.{out-Case}
use Rattle.qtt_term.specs.Globals.{env}
use Rattle.qtt_term.specs.Shape.{form_in_shape, in_shape, all_in_shape}
use Rattle.qtt_term.specs.Term.{Form, node, ε, ◌▸◌, ◌+++◌, Pi, Lam, App}
use Rattle.qtt_term.specs.View.{term, terms, case, branches, side_by_side}
use Rattle.qtt_term.proofs.Shaped.{branches_at, case-seen, case-counts, two-tests, five-tests}
use Rattle.qtt_term.proofs.shape.+in_shape.Goals as goal

pub branches_in_shape-returns-then-not-in_shape : goal.branches_in_shape-returns-then-not-in_shape
branches_in_shape-returns-then-not-in_shape t c =
    let bad = branches_at (form_in_shape (env c.args.env.now)) c.args.sources.now c.loop-source.source-index
    c.source-item.result
    c.loop-source-test.true c.source-item.is in
    grind (arith, common_steps, the_lemmas, bad)

pub case_in_shape-returns : goal.case_in_shape-returns
case_in_shape-returns t c =
    let E = env c.args.env.now in
    let a = out-Case c.args.source.now in
    let ps = terms a.params.items in
    let bs = branches a.branches.items in
    let cs = side_by_side (map (λ b. b.1) bs) in
    let form : case c.args.source.now ≡ node
    (Form.case a.mult a.family (length ps) (a.indices + 1) (map (λ b. b.0) bs))
    (side_by_side ps +++ (term a.motive ▸ (cs +++ (term a.scrutinee ▸ ε)))) =
    search (rules, the_lemmas) in
    let count : c.len-count.result ≡ length a.params.items = c.len-count.ensures ∙ omega (arith, a.params.ok.0) in
    five-tests c.has_case-shaped.result c.all_in_shape-params.result c.in_shape-motive.result
    c.branches_in_shape-branches.result c.in_shape-scrutinee.result
    (form_in_shape E (Form.case 𝟘 a.family (length ps) (a.indices + 1) (map (λ b. b.0) bs))
    (length ps + (2 + length bs)))
    (all_in_shape E (side_by_side ps)) (in_shape E (term a.motive)) (all_in_shape E cs) (in_shape E (term a.scrutinee))
    (c.has_case-shaped.ensures ∙ case-counts E a.family a.indices c.len-count.result a.params.items
    c.deref.result.now a.branches.items count c.deref.ensures.value)
    (c.all_in_shape-params.ensures ∙ ap (λ ts. all_in_shape E (side_by_side (terms ts))) c.deref-2.ensures.value)
    c.in_shape-motive.ensures
    (c.branches_in_shape-branches.ensures ∙
    ap (λ xs. all_in_shape E (side_by_side (map (λ b. b.1) (branches xs)))) c.deref-3.ensures.value)
    c.in_shape-scrutinee.ensures
    ∙ sym (case-seen E a.mult a.family a.indices ps (term a.motive) bs (term a.scrutinee)) ∙ sym (ap (in_shape E) form)

pub in_shape-returns-in-Pi : goal.in_shape-returns-in-Pi
in_shape-returns-in-Pi t c =
    let E = env c.args.env.now in
    let p = c.in-Pi in
    let form : term c.args.source.now ≡ Pi p.field-0 (term p.a.value) (term p.b.value) = search (rules, the_lemmas) in
    let one : c.in_shape.result ≡ in_shape E (term p.a.value) = search (rules, the_lemmas) in
    let other : c.in_shape-in-Pi.result ≡ in_shape E (term p.b.value) = search (rules, the_lemmas) in
    two-tests c.in_shape.result c.in_shape-in-Pi.result (in_shape E (term p.a.value))
    (in_shape E (term p.b.value)) one other ∙ sym (ap (in_shape E) form)

pub in_shape-returns-in-Lam : goal.in_shape-returns-in-Lam
in_shape-returns-in-Lam t c =
    let E = env c.args.env.now in
    let p = c.in-Lam in
    let form : term c.args.source.now ≡ Lam p.field-0 (term p.a.value) (term p.b.value) = search (rules, the_lemmas) in
    let one : c.in_shape-in-Lam.result ≡ in_shape E (term p.a.value) = search (rules, the_lemmas) in
    let other : c.in_shape-in-Lam-2.result ≡ in_shape E (term p.b.value) = search (rules, the_lemmas) in
    two-tests c.in_shape-in-Lam.result c.in_shape-in-Lam-2.result (in_shape E (term p.a.value))
    (in_shape E (term p.b.value)) one other ∙ sym (ap (in_shape E) form)

pub in_shape-returns-in-App : goal.in_shape-returns-in-App
in_shape-returns-in-App t c =
    let E = env c.args.env.now in
    let p = c.in-App in
    let form : term c.args.source.now ≡ App p.field-0 (term p.f.value) (term p.a.value) = search (rules, the_lemmas) in
    let one : c.in_shape-in-App.result ≡ in_shape E (term p.f.value) = search (rules, the_lemmas) in
    let other : c.in_shape-in-App-2.result ≡ in_shape E (term p.a.value) = search (rules, the_lemmas) in
    two-tests c.in_shape-in-App.result c.in_shape-in-App-2.result (in_shape E (term p.f.value))
    (in_shape E (term p.a.value)) one other ∙ sym (ap (in_shape E) form)
