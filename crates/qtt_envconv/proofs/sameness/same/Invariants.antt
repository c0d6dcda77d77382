use Rattle.std.proofs.Common.{◌≡◌, ◌↔◌}
use Rattle.qtt_envconv.specs.Nodes.{node}
use Rattle.qtt_envconv.specs.Twins.{AreAlike, left_weight}
use Rattle.qtt_envconv.proofs.sameness.same.Given as goal

abbrev pub invariant-loop-twins : goal.invariant-loop-twins
invariant-loop-twins l = AreAlike l.rest.items ↔ (node l.left ≡ node l.right)

abbrev pub decreases-loop-twins : goal.decreases-loop-twins
decreases-loop-twins l = left_weight l.rest.items
