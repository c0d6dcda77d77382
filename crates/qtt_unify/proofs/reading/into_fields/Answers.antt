use Rattle.std.proofs.Common.{◌≡◌, ◌++◌, ◌+◌, [], ◌∷◌, None, reverse, length, ap, subst, sym, ◌∙◌, rules, arith}
use Rattle.std.proofs.lemmas.Grind.{common_steps}
use Rattle.qtt_term.specs.declared.term.Term.{the_lemmas}
use Rattle.qtt_term.specs.declared.term.Term.TheVariants as code_term
use Rattle.qtt_term.specs.Question.{weight}
use Rattle.qtt_term.specs.Reading.{read_step}
use Rattle.qtt_term.specs.Term.{Form, node, ◌+++◌}
use Rattle.qtt_term.specs.View.{term, terms, side_by_side}
use Rattle.qtt_term.proofs.Binders.{if-ok}
use Rattle.qtt_unify.specs.declared.reading.Pending.{Pending}
use Rattle.qtt_unify.specs.Unread.{con_of, plug_all, behinds, StepsTo}
use Rattle.qtt_unify.proofs.Fields.{counted}
use Rattle.qtt_unify.proofs.Stack.{entered, no_fields}
use Rattle.qtt_unify.proofs.Unread.{con-read}
use Rattle.qtt_unify.proofs.reading.into_fields.Goals as goal

pub returns-in_ok-push-in-Some : goal.returns-in_ok-push-in-Some
returns-in_ok-push-in-Some c = λ E plain around.
    let ps = c.args.around.items in
    let p : Pending =
    record { con = c.args.con; params = c.args.params; before = c.new.result; behind = c.pop.new.self } in
    let turned : reverse c.args.fields.items ≡ c.pop.new.self.items ++ c.in-Some.first ∷ [] =
    sym c.reverse.ensures.items ∙ c.in-Some.ensures.items in
    let now : c.push.new.self.items ≡ ps ++ p ∷ [] = grind (arith, common_steps) in
    let none : c.new.result.items ≡ [] = c.new.ensures.items in
    entered E ps c.push.new.self.items p c.args.fields.items c.in-Some.first none turned now plain around

pub returns-in-None : goal.returns-in-None
returns-in-None c = λ E plain around.
    let ps = c.args.params in
    let con = c.args.con in
    let turned : reverse c.args.fields.items ≡ [] = sym c.reverse.ensures.items ∙ search rules in
    let none : c.args.fields.items ≡ [] = no_fields c.args.fields.items turned in
    let left : c.pop.new.self.items ≡ [] = search rules in
    let u = code_term.Con con ps c.pop.new.self in
    let form : term u ≡ node (Form.con con.family con.place (length (terms ps.items)))
    (side_by_side (terms ps.items) +++ side_by_side (terms c.pop.new.self.items)) = search (rules, the_lemmas) in
    let empty : term u ≡ con_of con ps.items [] =
    form ∙ counted con ps.items c.pop.new.self.items ∙ ap (con_of con ps.items) left in
    let same : term u ≡ con_of con ps.items c.args.fields.items = empty ∙ ap (con_of con ps.items) (sym none) in
    let read : read_step E (term u) ≡ None = ap (read_step E) empty ∙ con-read E con ps.items [] plain tt in
    if-ok (λ s. StepsTo E (plug_all c.args.around.items (term u)) (weight (term u) + behinds c.args.around.items) s)
    (λ s. StepsTo E (plug_all c.args.around.items (con_of con ps.items c.args.fields.items))
    (weight (con_of con ps.items c.args.fields.items) + behinds c.args.around.items) s)
    c.gone_on.result
    (λ s h. subst (λ v. StepsTo E (plug_all c.args.around.items v) (weight v + behinds c.args.around.items) s) same h)
    (c.gone_on.ensures E read around)
