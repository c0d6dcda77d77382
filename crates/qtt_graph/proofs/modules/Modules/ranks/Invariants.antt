use Rattle.std.proofs.Common.{◌≡◌, ◌<◌, ℕ, length, Option, slice_index_or}
use Rattle.qtt_graph.specs.Modules.{graph_of, name_at}
use Rattle.qtt_graph.specs.Ranks.{rank}
use Rattle.qtt_graph.proofs.Visiting.{Settled}
use Rattle.qtt_graph.proofs.modules.Modules.ranks.Given as goal

abbrev pub invariant-loop-place : goal.invariant-loop-place
invariant-loop-place l = Settled (graph_of l.self.texts.now) l.known.items × (length l.ranks.items ≡ l.place) ×
    ((i : ℕ) (d : Option ℕ) → i < l.place → rank (graph_of l.self.texts.now) (name_at (graph_of l.self.texts.now) i) ≡
    slice_index_or l.ranks.items i d)
