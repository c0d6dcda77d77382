use Rattle.std.proofs.Common.{◌≡◌, ◌++◌, map, take}
use Rattle.qtt_split.specs.Tree.{all_leaves}
use Rattle.qtt_split.specs.View.{branches_of}
use Rattle.qtt_module.specs.GroupCalls.{leaf_at}
use Rattle.qtt_module.proofs.tree_leaves.+leaves.Given as goal

abbrev pub invariant-leaves_among-loop-branch : goal.invariant-leaves_among-loop-branch
invariant-leaves_among-loop-branch l =
    map leaf_at l.leaves.items
    ≡ map leaf_at l.initial.leaves.items ++ all_leaves (branches_of (take l.branch-index l.branches))
