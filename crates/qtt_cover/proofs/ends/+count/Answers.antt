use Rattle.std.proofs.Common.{◌≡◌, length, rules, ap, arith}
use Rattle.qtt_split.specs.declared.tree.Tree as code_tree
use Rattle.qtt_split.specs.Missing.{ends}
use Rattle.qtt_split.specs.View.{tree_of, branch_of}
use Rattle.qtt_cover.proofs.Numbering.{count-more, count-within}
use Rattle.qtt_cover.proofs.ends.+count.Goals as goal

pub count_all-returns-in-None : goal.count_all-returns-in-None
count_all-returns-in-None t c =
    let x = c.branch-item.result in
    let seen : (branch_of x).tree ≡ tree_of x.tree = search (rules, code_tree.the_lemmas) in
    let same : length (ends (branch_of x).tree) ≡ length (ends (tree_of x.tree)) = ap (λ T. length (ends T)) seen in
    let fits = count-within c.args.branches.now c.loop-branch.branch-index c.args.before x c.loop-branch-test.true
    c.branch-item.is in
    omega (arith, c.in-None.ensures, c.loop-branch.invariant)

pub count_all-loop-branch-preserved : goal.count_all-loop-branch-preserved
count_all-loop-branch-preserved t c =
    let x = c.branch-item.result in
    let seen : (branch_of x).tree ≡ tree_of x.tree = search (rules, code_tree.the_lemmas) in
    let same : length (ends (branch_of x).tree) ≡ length (ends (tree_of x.tree)) = ap (λ T. length (ends T)) seen in
    let more = count-more c.args.branches.now c.loop-branch.branch-index c.args.before x c.loop-branch-test.true
    c.branch-item.is in
    omega (arith, c.in-Some.ensures, c.loop-branch.invariant)
