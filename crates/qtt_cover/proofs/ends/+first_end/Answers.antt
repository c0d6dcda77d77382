use Rattle.std.proofs.Common.{◌≡◌, ◌∙◌, ◌+◌, ◌<◌, None, Some, length, rules, ap, arith}
use Rattle.qtt_split.specs.declared.tree.Tree as code_tree
use Rattle.qtt_split.specs.Missing.{ends, first_there}
use Rattle.qtt_split.specs.View.{tree_of, branch_of}
use Rattle.qtt_cover.specs.Ends.{greatest}
use Rattle.qtt_cover.proofs.Numbering.{first-of-branch, none-of-branch, count-more, count-within}
use Rattle.qtt_cover.proofs.ends.+first_end.Goals as goal

pub first_among-returns-in-Missing : goal.first_among-returns-in-Missing
first_among-returns-in-Missing t c =
    let x = c.branch-item.result in
    let seen : (branch_of x).tree ≡ tree_of x.tree = search (rules, code_tree.the_lemmas) in
    let there : first_there c.loop-branch.passed (ends (tree_of x.tree)) ≡ Some c.in-Missing.number = search rules in
    first-of-branch c.args.branches.now c.loop-branch.branch-index c.args.before c.loop-branch.passed
    c.in-Missing.number x c.loop-branch-test.true c.branch-item.is c.loop-branch.invariant.none
    c.loop-branch.invariant.passed (ap (λ T. first_there c.loop-branch.passed (ends T)) seen ∙ there)

pub first_among-returns-in-Beyond : goal.first_among-returns-in-Beyond
first_among-returns-in-Beyond t c =
    let x = c.branch-item.result in
    let seen : (branch_of x).tree ≡ tree_of x.tree = search (rules, code_tree.the_lemmas) in
    let same : length (ends (branch_of x).tree) ≡ length (ends (tree_of x.tree)) = ap (λ T. length (ends T)) seen in
    let there : greatest < c.loop-branch.passed + length (ends (tree_of x.tree)) = search rules in
    let fits = count-within c.args.branches.now c.loop-branch.branch-index c.args.before x c.loop-branch-test.true
    c.branch-item.is in
    omega (arith, c.loop-branch.invariant.passed)

pub first_among-loop-branch-preserved : goal.first_among-loop-branch-preserved
first_among-loop-branch-preserved t c =
    let x = c.branch-item.result in
    let seen : (branch_of x).tree ≡ tree_of x.tree = search (rules, code_tree.the_lemmas) in
    let same : length (ends (branch_of x).tree) ≡ length (ends (tree_of x.tree)) = ap (λ T. length (ends T)) seen in
    let none : first_there c.loop-branch.passed (ends (tree_of x.tree)) ≡ None = search rules in
    let there : c.in-Behind.number ≡ c.loop-branch.passed + length (ends (tree_of x.tree)) = search rules in
    let more = count-more c.args.branches.now c.loop-branch.branch-index c.args.before x c.loop-branch-test.true
    c.branch-item.is in
    record {
      none =
          none-of-branch c.args.branches.now c.loop-branch.branch-index c.args.before c.loop-branch.passed x
          c.loop-branch-test.true c.branch-item.is c.loop-branch.invariant.none c.loop-branch.invariant.passed
          (ap (λ T. first_there c.loop-branch.passed (ends T)) seen ∙ none);
      passed = omega (arith, c.loop-branch.invariant.passed);
    }
