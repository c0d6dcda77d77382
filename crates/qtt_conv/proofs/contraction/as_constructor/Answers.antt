use Rattle.std.proofs.Common.{◌≡◌, length, ap, ◌∙◌, arith, Some}
use Rattle.std.proofs.lemmas.Grind.{common_steps}
use Rattle.qtt_term.specs.declared.term.Term.{the_lemmas}
use Rattle.qtt_term.specs.Term.{Form, node, ◌+++◌}
use Rattle.qtt_term.specs.Contraction.{Made}
use Rattle.qtt_term.specs.View.{term, terms, side_by_side}
use Rattle.qtt_conv.proofs.Contracting.{con-seen}
use Rattle.qtt_conv.proofs.contraction.as_constructor.Goals as goal

pub returns-in-Con : goal.returns-in-Con
returns-in-Con c =
    let con = c.in-Con in
    let is : term c.args.t.now ≡ node (Form.con con.con.family con.con.place (length con.field-1.items))
    (side_by_side (terms con.field-1.items) +++ side_by_side (terms con.fields.items)) =
    grind (arith, common_steps, the_lemmas) in
    ap (λ ts. Some (Made.made con.con.family con.con.place (side_by_side (terms ts)))) c.deref.ensures.value
    ∙ con-seen (term c.args.t.now) con.con.family con.con.place con.field-1.items con.fields.items is
