use Rattle.std.proofs.Common.{◌≡◌, ◌∙◌, length, rules}
use Rattle.qtt_term.specs.declared.term.Term.{the_lemmas}
use Rattle.qtt_term.specs.declared.term.Term.TheVariants as form
use Rattle.qtt_term.specs.Term.{Form, node, ◌+++◌}
use Rattle.qtt_term.specs.View.{term, terms, side_by_side}
use Rattle.qtt_unify.specs.View.{all_terms}
use Rattle.qtt_split.proofs.Waying.{made-seen}
use Rattle.qtt_split.proofs.constructors.made.Goals as goal

pub returns : goal.returns
returns c =
    let con = c.args.con in
    let ps = c.in_ok-params.params.items in
    let fs = c.in_ok-above.field-0.items in
    let seen : term (form.Con con c.in_ok-params.params c.in_ok-above.field-0)
    ≡ node (Form.con con.family con.place (length (terms ps))) (side_by_side (terms ps) +++ side_by_side (terms fs)) =
    search (rules, the_lemmas) in
    seen ∙
    made-seen con ps c.args.params.now c.args.fields (all_terms fs) c.in_ok-params.ensures c.in_ok-above.ensures
