use Rattle.std.proofs.Common.{◌≡◌, map, take}
use Rattle.qtt_graph.specs.Modules.{graph_of, rows_of}
use Rattle.qtt_graph.proofs.modules.Modules.new.Given as goal

abbrev pub invariant-loop-text : goal.invariant-loop-text
invariant-loop-text l = map (λ row. row.items) l.below.items ≡ take l.text-index (rows_of (graph_of l.texts))
