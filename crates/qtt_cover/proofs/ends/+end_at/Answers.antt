use Rattle.std.proofs.Common.{◌≡◌, ◌∙◌, ◌+◌, None, Some, length, map, rules, ap, arith, slice_get}
use Rattle.qtt_syntax.specs.View.{shape_of}
use Rattle.qtt_split.specs.declared.tree.Tree as code_tree
use Rattle.qtt_split.specs.Missing.{ends}
use Rattle.qtt_split.specs.View.{tree_of, branch_of}
use Rattle.qtt_cover.proofs.Numbering.{end-of-branch, count-more}
use Rattle.qtt_cover.proofs.ends.+end_at.Goals as goal

pub end_among-returns-in-Missing : goal.end_among-returns-in-Missing
end_among-returns-in-Missing t c =
    let x = c.branch-item.result in
    let seen : (branch_of x).tree ≡ tree_of x.tree = search (rules, code_tree.the_lemmas) in
    let there : slice_get (ends (tree_of x.tree)) c.loop-branch.behind
    ≡ Some (Some (map shape_of c.in-Missing.patterns.now)) =
    search rules in
    end-of-branch c.args.branches.now c.loop-branch.branch-index c.args.number c.loop-branch.behind x
    (Some (map shape_of c.in-Missing.patterns.now)) c.loop-branch-test.true c.branch-item.is c.loop-branch.invariant
    (ap (λ T. slice_get (ends T) c.loop-branch.behind) seen ∙ there)

pub end_among-returns-in-Other : goal.end_among-returns-in-Other
end_among-returns-in-Other t c =
    let x = c.branch-item.result in
    let seen : (branch_of x).tree ≡ tree_of x.tree = search (rules, code_tree.the_lemmas) in
    let there : slice_get (ends (tree_of x.tree)) c.loop-branch.behind ≡ Some None = search rules in
    end-of-branch c.args.branches.now c.loop-branch.branch-index c.args.number c.loop-branch.behind x
    None c.loop-branch-test.true c.branch-item.is c.loop-branch.invariant
    (ap (λ T. slice_get (ends T) c.loop-branch.behind) seen ∙ there)

pub end_among-loop-branch-preserved : goal.end_among-loop-branch-preserved
end_among-loop-branch-preserved t c =
    let x = c.branch-item.result in
    let seen : (branch_of x).tree ≡ tree_of x.tree = search (rules, code_tree.the_lemmas) in
    let same : length (ends (branch_of x).tree) ≡ length (ends (tree_of x.tree)) = ap (λ T. length (ends T)) seen in
    let there : c.loop-branch.behind ≡ length (ends (tree_of x.tree)) + c.in-Behind.number = search rules in
    let more = count-more c.args.branches.now c.loop-branch.branch-index 0 x c.loop-branch-test.true c.branch-item.is in
    omega (arith, c.loop-branch.invariant)
