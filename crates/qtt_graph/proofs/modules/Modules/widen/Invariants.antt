use Rattle.std.proofs.Common.{take}
use Rattle.qtt_graph.specs.Modules.{graph_of}
use Rattle.qtt_graph.specs.Near.{Widened, imports_one}
use Rattle.qtt_graph.proofs.Searching.{partly}
use Rattle.qtt_graph.proofs.modules.Modules.widen.Given as goal

abbrev pub invariant-loop-above : goal.invariant-loop-above
invariant-loop-above l =
    Widened (partly (graph_of l.self.texts.now) (take l.place-index l.frontier) (take l.above-index l.above-items))
    l.count l.fn.near.items l.near.items l.next.items

abbrev pub invariant-loop-place : goal.invariant-loop-place
invariant-loop-place l =
    Widened (imports_one (graph_of l.self.texts.now) (take l.place-index l.frontier)) l.count l.fn.near.items
    l.near.items l.next.items
