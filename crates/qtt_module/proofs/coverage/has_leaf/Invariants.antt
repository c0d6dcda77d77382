use Rattle.std.proofs.Common.{◌≡◌, eqb, map, drop}
use Rattle.std.specs.List.{list_any}
use Rattle.qtt_split.specs.Tree.{Leaf}
use Rattle.qtt_module.specs.GroupCalls.{leaf_at}
use Rattle.qtt_module.proofs.coverage.has_leaf.Given as goal

abbrev pub invariant-loop-leaf : goal.invariant-loop-leaf
invariant-loop-leaf l =
    list_any (λ (x : Leaf). eqb x.clause l.number) (map leaf_at l.leaves)
    ≡ list_any (λ (x : Leaf). eqb x.clause l.number) (map leaf_at (drop l.leaf-index l.leaves))
