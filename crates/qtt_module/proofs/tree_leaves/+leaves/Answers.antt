use Rattle.std.proofs.Common.{◌≡◌, ◌∙◌, ◌+◌, ◌++◌, ◌∷◌, [], map, take, rules, ap, sym, append_assoc}
use Rattle.std.proofs.lemmas.List.{take_more, map-append}
use Rattle.qtt_split.specs.declared.tree.Tree as code_tree
use Rattle.qtt_split.specs.Tree.{leaves, all_leaves}
use Rattle.qtt_split.specs.View.{in_order, tree_of, branch_of, branches_of}
use Rattle.qtt_split.proofs.Gluing.{leaves-behind}
use Rattle.qtt_module.specs.GroupCalls.{leaf_at}
use Rattle.qtt_module.proofs.tree_leaves.+leaves.Goals as goal

pub leaves_among-loop-branch-preserved : goal.leaves_among-loop-branch-preserved
leaves_among-loop-branch-preserved t c =
    let x = c.branch-item.result in
    let i = c.loop-branch.branch-index in
    let bs = c.args.branches.now in
    let before = map leaf_at c.args.before.items in
    let seen : (branch_of x).tree ≡ tree_of x.tree = search (rules, code_tree.the_lemmas) in
    let more : branches_of (take (i + 1) bs) ≡ in_order (map branch_of (take i bs) ++ branch_of x ∷ []) =
    ap (λ xs. in_order (map branch_of xs))
    (take_more bs i x c.loop-branch-test.true ∙ ap (λ y. take i bs ++ y ∷ []) (sym c.branch-item.is))
    ∙ ap in_order (map-append branch_of (take i bs) (x ∷ [])) in
    c.in_ok-leaves.ensures ∙ ap (λ ls. ls ++ leaves (tree_of x.tree)) c.loop-branch.invariant
    ∙ append_assoc before (all_leaves (branches_of (take i bs))) (leaves (tree_of x.tree))
    ∙ ap (λ T. before ++ (all_leaves (branches_of (take i bs)) ++ leaves T)) (sym seen)
    ∙ ap (λ ls. before ++ ls) (sym (leaves-behind (map branch_of (take i bs)) (branch_of x)))
    ∙ ap (λ b. before ++ all_leaves b) (sym more)
