use Rattle.std.proofs.Common.{◌≡◌, length, map, None, Some, ap, ◌∙◌, arith}
use Rattle.std.proofs.lemmas.Grind.{common_steps}
use Rattle.qtt_term.specs.declared.term.Term.{the_lemmas}
use Rattle.qtt_term.specs.Term.{Form, node, ◌+++◌}
use Rattle.qtt_term.specs.Contraction.{as_con}
use Rattle.qtt_term.specs.Substitution.{sub, push}
use Rattle.qtt_term.specs.View.{term, terms, side_by_side}
use Rattle.qtt_envconv.specs.Closures.{closure, values}
use Rattle.qtt_envconv.proofs.Contracting.{chosen-body, chosen-none}
use Rattle.qtt_envconv.proofs.contraction.chosen.Goals as goal

pub returns-in_ok-values-in-Some : goal.returns-in_ok-values-in-Some
returns-in_ok-values-in-Some c =
    let con = c.in-Con in
    let s = c.args.scrutinee in
    let τ = values s.values.now in
    let body = term c.in-Some.code.now in
    let is : term s.code.now ≡ node (Form.con con.con.family con.con.place (length con.field-1.items))
    (side_by_side (terms con.field-1.items) +++ side_by_side (terms con.fields.items)) =
    grind (arith, common_steps, the_lemmas) in
    ap (λ v. Some (sub v body)) (c.in_ok-values-in-Some.ensures
    ∙ ap (λ fs. push (side_by_side (map (sub τ) (terms fs))) (values c.args.values.now)) c.deref.ensures.value)
    ∙ chosen-body (values c.args.values.now) τ c.args.case.now (term s.code.now) con.con con.field-1.items
    con.fields.items c.len.result (Some body) is (omega (arith, c.len.ensures, con.fields.ok.0)) c.in-Some.ensures

pub returns-in-None : goal.returns-in-None
returns-in-None c =
    let con = c.in-Con in
    let s = c.args.scrutinee in
    let is : term s.code.now ≡ node (Form.con con.con.family con.con.place (length con.field-1.items))
    (side_by_side (terms con.field-1.items) +++ side_by_side (terms con.fields.items)) =
    grind (arith, common_steps, the_lemmas) in
    chosen-body (values c.args.values.now) (values s.values.now) c.args.case.now (term s.code.now) con.con
    con.field-1.items con.fields.items c.len.result None is (omega (arith, c.len.ensures, con.fields.ok.0))
    c.in-None.ensures

pub returns-in_default : goal.returns-in_default
returns-in_default c =
    let none : None ≡ as_con (closure c.args.scrutinee) = grind (arith, common_steps, the_lemmas) in
    chosen-none (values c.args.values.now) c.args.case.now (closure c.args.scrutinee) none
