use Rattle.std.proofs.Common.{◌≡◌, take, None}
use Rattle.qtt_graph.specs.Graph.{names, in_byte_order}
use Rattle.qtt_graph.specs.Ring.{first_ring}
use Rattle.qtt_graph.specs.Modules.{graph_of}
use Rattle.qtt_graph.proofs.modules.Modules.ring.Given as goal

abbrev pub invariant-loop-place : goal.invariant-loop-place
invariant-loop-place l =
    first_ring (graph_of l.self.texts.now) (take l.place-index (in_byte_order (names (graph_of l.self.texts.now)))) ≡
    None
