use Rattle.std.proofs.Common.{◌≡◌, map, take, Some}
use Rattle.qtt_graph.specs.Modules.{graph_of, name_at}
use Rattle.qtt_graph.specs.Ranks.{one_above, rank}
use Rattle.qtt_graph.specs.Ranking.{unvisited}
use Rattle.qtt_graph.proofs.Visiting.{Visiting}
use Rattle.qtt_graph.proofs.modules.Modules.+rank.Given as goal

abbrev pub decreases-rank : goal.decreases-rank
decreases-rank l = unvisited l.known.now.items

abbrev pub invariant-loop-below : goal.invariant-loop-below
invariant-loop-below l = Visiting (graph_of l.self.texts.now) l.place l.fn.known.items l.known.items ×
    (one_above (map (λ i. rank (graph_of l.self.texts.now) (name_at (graph_of l.self.texts.now) i))
    (take l.below-index l.below-items)) ≡ Some l.rank)
