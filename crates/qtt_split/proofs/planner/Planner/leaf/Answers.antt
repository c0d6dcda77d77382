use Rattle.std.proofs.Common.{◌≡◌, ◌∙◌, rules, ap, sym}
use Rattle.qtt_term.specs.Ask.{Ask}
use Rattle.qtt_term.specs.Entries.{entries, env}
use Rattle.qtt_term.specs.View.{term}
use Rattle.qtt_unify.specs.View.{binders}
use Rattle.qtt_split.specs.declared.tree.Tree.{the_lemmas}
use Rattle.qtt_split.specs.declared.tree.Tree.TheVariants as code
use Rattle.qtt_split.specs.Calls.{group_of}
use Rattle.qtt_split.specs.Columns.{row_of}
use Rattle.qtt_split.specs.Nodes.{node_of}
use Rattle.qtt_split.specs.Parts.{node_at}
use Rattle.qtt_split.specs.Plan.{leaf_of}
use Rattle.qtt_split.specs.Sights.{sights_of}
use Rattle.qtt_split.specs.Split.{count_leaf, grown}
use Rattle.qtt_split.specs.Tree.{Tree}
use Rattle.qtt_split.specs.View.{tree_of, leaf_of as leaf_seen}
use Rattle.qtt_split.proofs.Within.{on, on_done, passed, here, reached}
use Rattle.qtt_split.proofs.planner.Planner.leaf.Goals as goal

pub returns-in_err-less : goal.returns-in_err-less
returns-in_err-less g c =
    let E = env (entries c.args.self.now.unifier.globals.now) in
    let n = c.args.self.now.unifier.budget in
    let G = group_of c.args.self.now in
    let N = node_of c.args.node.now in
    let r = row_of c.args.row.now in
    let e = c.in_err-less.field-0.0 in
    passed E n _ _ c.from_residual.result e c.from_residual.ensures.1
    (here E n (count_leaf G c.args.left) (λ less. Ask.done (grown (Tree.leaf (leaf_of G N r)) less)) e
    c.in_err-less.ensures)

pub returns : goal.returns
returns g c =
    let E = env (entries c.args.self.now.unifier.globals.now) in
    let n = c.args.self.now.unifier.budget in
    let G = group_of c.args.self.now in
    let M = c.args.node.now in
    let N = node_of M in
    let r = row_of c.args.row.now in
    let l = c.in_ok-leaf.leaf in
    let seen : tree_of (code.Leaf l) ≡ Tree.leaf (leaf_seen l) = search (rules, the_lemmas) in
    let whole : tree_of (code.Leaf l) ≡ Tree.leaf (leaf_of G N r) =
    seen ∙
    ap Tree.leaf
    (c.in_ok-leaf.ensures ∙
    ap (λ xs. leaf_of G (node_at (binders xs) (sights_of c.deref-2.result.now) (term M.goal)) r) c.deref.ensures.value ∙
    ap (λ xs. leaf_of G (node_at (binders M.context.items) (sights_of xs) (term M.goal)) r) c.deref-2.ensures.value) in
    reached
    (on {E = E} {n = n} {m = count_leaf G c.args.left} (λ less. Ask.done (grown (Tree.leaf (leaf_of G N r)) less))
    c.in_ok-less.ensures on_done) (ap (λ t. grown t c.in_ok-less.less) (sym whole))
