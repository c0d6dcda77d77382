use Rattle.std.proofs.Common.{map, arith}
use Rattle.qtt_module.specs.GroupCalls.{right_side}
use Rattle.qtt_module.proofs.Ordering.{one-ordered, all-ordered}
use Rattle.qtt_module.proofs.bodies.in_order.Goals as goal

pub loop-leaf-preserved : goal.loop-leaf-preserved
loop-leaf-preserved c =
    one-ordered c.args.count (map right_side c.args.cores.now) c.loop-leaf.leaf c.loop-leaf.ordered.items
    c.loop-leaf-test.true c.loop-leaf.invariant c.in_ok-ordered-2.ordered.items c.in_ok-ordered-2.ensures

pub returns : goal.returns
returns c ls e =
    all-ordered c.args.count (map right_side c.args.cores.now) c.loop-leaf.leaf c.loop-leaf.ordered.items ls
    (omega (arith)) e c.loop-leaf.invariant
