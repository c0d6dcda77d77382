use Rattle.std.proofs.Common.{◌≡◌, ◌∙◌, length, rules, ap, sym}
use Rattle.std.proofs.lemmas.List.{length-map}
use Rattle.qtt_term.specs.Term.{size}
use Rattle.qtt_term.specs.View.{term, terms}
use Rattle.qtt_term.proofs.Shaped.{size_side_by_side}
use Rattle.qtt_unify.specs.View.{all_terms}
use Rattle.qtt_split.specs.declared.tree.Splitting as code_splitting
use Rattle.qtt_split.specs.declared.tree.Tree.{the_lemmas}
use Rattle.qtt_split.specs.declared.tree.Tree.TheVariants as code
use Rattle.qtt_split.specs.Split.{grown}
use Rattle.qtt_split.specs.Tree.{Tree}
use Rattle.qtt_split.specs.View.{branches_of, splitting_of, tree_of}
use Rattle.qtt_split.proofs.growing.split_tree.Goals as goal

pub returns : goal.returns
returns c G N Γ =
    let D = c.args.division in
    let bs = c.args.grown.branches in
    let k = c.in_ok-number.field-0 in
    let over : code_splitting.Splitting = record {
      variable = D.variable;
      mult = D.mult;
      family = D.family;
      params = D.params;
      indices = k;
      motive = c.args.motive;
      reverted = c.args.reverted;
    } in
    let seen : tree_of (code.Split over bs) ≡ Tree.split (splitting_of over) (branches_of bs.items) =
    search (rules, the_lemmas) in
    let count : k ≡ length D.targets.items = search rules in
    let many : k ≡ size (all_terms D.targets.items) =
    count ∙ sym (size_side_by_side (terms D.targets.items) ∙ length-map D.targets.items term) in
    ap (λ t. grown t c.args.grown.left)
    (seen ∙
    ap (λ m. Tree.split (record {
      variable = D.variable;
      mult = D.mult;
      family = D.family;
      params = all_terms D.params.items;
      indices = m;
      motive = term c.args.motive;
      reverted = c.args.reverted.items;
    }) (branches_of bs.items)) many)
