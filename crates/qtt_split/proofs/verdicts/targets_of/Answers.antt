use Rattle.std.proofs.Common.{◌≡◌, ◌∙◌, ◌++◌, [], ◌∷◌, length, rules, ap}
use Rattle.std.proofs.lemmas.List.{length-map}
use Rattle.qtt_term.specs.declared.term.Term.{the_lemmas}
use Rattle.qtt_term.specs.declared.term.Term.TheVariants as form
use Rattle.qtt_term.specs.Substitution.{above}
use Rattle.qtt_term.specs.Term.{Form, node, ◌+++◌}
use Rattle.qtt_term.specs.View.{term, terms}
use Rattle.qtt_unify.specs.View.{all_terms}
use Rattle.qtt_split.proofs.Targeted.{targets-are}
use Rattle.qtt_split.proofs.verdicts.targets_of.Goals as goal

pub returns : goal.returns
returns c =
    let con = c.args.con in
    let ps = c.in_ok-params.params in
    let fs = c.in_ok-above.field-0 in
    let own = form.Con con ps fs in
    let parts = all_terms ps.items +++ all_terms fs.items in
    let mapped : term own ≡ node (Form.con con.family con.place (length (terms ps.items))) parts =
    search (rules, the_lemmas) in
    let seen : term own ≡ node (Form.con con.family con.place (length ps.items)) parts =
    mapped ∙ ap (λ j. node (Form.con con.family con.place j) parts) (length-map ps.items term) in
    let count : c.in_ok-fields.fields ≡ length c.args.constructor.now.fields.items = search rules in
    let params : c.in_ok-number.field-0 ≡ c.args.params = search rules in
    let all : c.push.new.self.items ≡ c.in_ok-targets.targets.items ++ own ∷ [] = search rules in
    targets-are c.args.constructor.now con c.args.params c.in_ok-fields.fields ps.items fs.items
    c.in_ok-targets.targets.items c.push.new.self.items own count all
    (c.in_ok-targets.ensures ∙ ap terms c.deref.ensures.value) seen
    (c.in_ok-params.ensures ∙ ap (above c.in_ok-fields.fields) params) c.in_ok-above.ensures
