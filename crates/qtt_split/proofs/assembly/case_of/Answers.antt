use Rattle.std.proofs.Common.{◌≡◌, ◌∙◌, ◌+◌, length, map, ap, rules}
use Rattle.qtt_term.specs.declared.term.Term.{the_lemmas}
use Rattle.qtt_term.specs.declared.term.Term.TheVariants as form
use Rattle.qtt_term.specs.Term.{Form, var, node, ε, ◌▸◌, ◌+++◌}
use Rattle.qtt_term.specs.View.{term, terms, side_by_side}
use Rattle.qtt_term.proofs.Binders.{if-ok}
use Rattle.qtt_split.specs.Tree.{apps}
use Rattle.qtt_split.specs.View.{splitting_of, branch_terms, split_to}
use Rattle.qtt_split.proofs.Gluing.{case-made}
use Rattle.qtt_split.proofs.assembly.case_of.Goals as goal

pub returns : goal.returns
returns c =
    let s = c.args.over.now in
    let bs = branch_terms c.args.branches.items in
    let ps = terms c.in_ok-copy_all.field-0.items in
    let M = term c.in_ok-copy.field-0 in
    let seen : term (form.Case c.in_ok-new.field-0) ≡ node
    (Form.case s.mult s.family (length ps) (s.indices + 1) (map (λ b. b.0) bs))
    (side_by_side ps +++ (M ▸ (side_by_side (map (λ b. b.1) bs) +++ (var s.variable ▸ ε)))) =
    search (rules, the_lemmas) in
    let params : ps ≡ terms s.params.items = search rules in
    let motive : M ≡ term s.motive = search rules in
    if-ok (λ t. term t ≡ apps (term (form.Case c.in_ok-new.field-0)) s.reverted.items)
    (λ t. term t ≡ split_to (splitting_of s) bs) c.applied.result
    (λ t h. h ∙ ap (λ f. apps f s.reverted.items)
    (seen ∙
    case-made s.mult s.family ps (terms s.params.items) s.indices s.variable M (term s.motive) bs params motive))
    (search rules)
