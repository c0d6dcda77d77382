use Rattle.qtt_graph.specs.Modules.{graph_of}
use Rattle.qtt_graph.proofs.Ways.{Going}
use Rattle.qtt_graph.proofs.modules.Modules.way.Given as goal

abbrev pub invariant-loop-next : goal.invariant-loop-next
invariant-loop-next l = Going (graph_of l.self.texts.now) l.near.items l.target l.count l.way.items l.place l.left

abbrev pub decreases-loop-next : goal.decreases-loop-next
decreases-loop-next l = l.left
