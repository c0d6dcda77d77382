use Rattle.std.proofs.Common.{map}
use Rattle.qtt_graph.proofs.Turning.{Turning}
use Rattle.qtt_graph.proofs.modules.turned.Given as goal

abbrev pub invariant-loop-target : goal.invariant-loop-target
invariant-loop-target l =
    Turning (map (λ row. row.items) l.below) (map (λ row. row.items) l.above.items) l.place l.target-index

abbrev pub invariant-loop-place : goal.invariant-loop-place
invariant-loop-place l =
    Turning (map (λ row. row.items) l.below) (map (λ row. row.items) l.above.items) l.place 0
