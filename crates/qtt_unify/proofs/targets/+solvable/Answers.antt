use Rattle.std.proofs.Common.{◌≡◌, ◌&&◌, true, length, rules, sym, ap, ◌∙◌}
use Rattle.qtt_term.specs.declared.term.Term.{the_lemmas}
use Rattle.qtt_term.specs.Globals.{env}
use Rattle.qtt_term.specs.Reading.{is_plain}
use Rattle.qtt_term.specs.Signature.{family_at}
use Rattle.qtt_term.specs.Term.{Form, node, ◌+++◌}
use Rattle.qtt_term.specs.View.{term, terms, side_by_side}
use Rattle.qtt_term.proofs.Binders.{if-ok}
use Rattle.qtt_unify.specs.Targets.{solvable, all_solvable}
use Rattle.qtt_unify.specs.Unread.{con_of}
use Rattle.qtt_unify.specs.View.{all_terms, scrutinee}
use Rattle.qtt_unify.proofs.Fields.{counted, solvable-behind}
use Rattle.qtt_unify.proofs.targets.+solvable.Goals as goal

pub is_solvable-returns-then-branch : goal.is_solvable-returns-then-branch
is_solvable-returns-then-branch t c =
    let E = env c.args.env.now in
    let S = scrutinee c.args.scrutinee.now in
    let con = c.in-Con.con in
    let ps = c.in-Con.field-1.items in
    let fs = c.in-Con.fields.items in
    let form : term c.args.target.now ≡ node (Form.con con.family con.place (length (terms ps)))
    (side_by_side (terms ps) +++ side_by_side (terms fs)) = search (rules, the_lemmas) in
    let plain : is_plain (family_at E con.family) ≡ true = sym c.in_ok-is_plain-in-Con.ensures ∙ c.if-branch.true in
    let whole : solvable E S (con_of con ps fs) ≡ all_solvable E S (all_terms fs) 0 =
    ap (λ b. b && all_solvable E S (all_terms ps +++ all_terms fs) (length ps)) plain ∙
    solvable-behind E S ps (all_terms fs) in
    if-ok (λ b. b ≡ all_solvable E S (all_terms c.deref.result.now) 0) (λ b. b ≡ solvable E S (term c.args.target.now))
    c.are_solvable.result
    (λ b h. h ∙ ap (λ xs. all_solvable E S (all_terms xs) 0) c.deref.ensures.value ∙ sym whole ∙
    ap (solvable E S) (sym (form ∙ counted con ps fs)))
    c.are_solvable.ensures
