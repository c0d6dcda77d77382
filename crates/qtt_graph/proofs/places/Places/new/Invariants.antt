use Rattle.std.proofs.Common.{◌≡◌, take}
use Rattle.std.specs.Ordering.{nat_cmp}
use Rattle.std.specs.Cmp.Lexicographic.{slice_cmp}
use Rattle.std.specs.BTreeMap as tree
use Rattle.qtt_graph.specs.Graph.{Name, names, all_differ}
use Rattle.qtt_graph.specs.Ranks.{place_among}
use Rattle.qtt_graph.specs.Modules.{graph_of}
use Rattle.qtt_graph.proofs.places.Places.new.Given as goal

abbrev pub invariant-loop-place : goal.invariant-loop-place
invariant-loop-place l =
    ((q : Name) →
    tree.get_by (λ k. slice_cmp nat_cmp q k.now) l.by_name ≡ place_among (take l.place (names (graph_of l.texts))) q) ×
    (l.differ ≡ all_differ (take l.place (names (graph_of l.texts))))
