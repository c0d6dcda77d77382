use Rattle.qtt_graph.specs.Modules.{graph_of, name_at}
use Rattle.qtt_graph.specs.Near.{Near}
use Rattle.qtt_graph.proofs.Searching.{Frontier}
use Rattle.qtt_graph.proofs.modules.Modules.nearness.Given as goal

abbrev pub invariant-loop-count : goal.invariant-loop-count
invariant-loop-count l =
    Near (graph_of l.self.texts.now) (name_at (graph_of l.self.texts.now) l.target) l.count l.near.items ×
    Frontier (graph_of l.self.texts.now) l.near.items l.target l.count l.frontier.items
