use Rattle.std.proofs.Common.{◌≡◌, ◌∷◌, []}
use Rattle.qtt_term.specs.View.{terms}
use Rattle.qtt_envconv.specs.Nodes.{node}
use Rattle.qtt_envconv.specs.Tasks.{finished, work, AreDoable}
use Rattle.qtt_envconv.proofs.node.Node.term.Given as goal

abbrev pub invariant-loop-task : goal.invariant-loop-task
invariant-loop-task l = record {
  makes : finished l.tasks.items (terms l.built.items) ≡ node l.fn.self ∷ [];
  doable : AreDoable l.tasks.items (terms l.built.items);
}

abbrev pub decreases-loop-task : goal.decreases-loop-task
decreases-loop-task l = work l.tasks.items
