use Rattle.std.proofs.Common.{map}
use Rattle.qtt_module.specs.GroupCalls.{right_side}
use Rattle.qtt_module.proofs.Ordering.{OrderedSoFar}
use Rattle.qtt_module.proofs.bodies.in_order.Given as goal

abbrev pub invariant-loop-leaf : goal.invariant-loop-leaf
invariant-loop-leaf l = OrderedSoFar l.count (map right_side l.cores) l.leaf l.ordered.items
