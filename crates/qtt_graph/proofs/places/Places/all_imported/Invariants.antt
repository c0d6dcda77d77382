use Rattle.std.proofs.Common.{◌≡◌, take}
use Rattle.qtt_graph.specs.Graph.{names}
use Rattle.qtt_graph.specs.Modules.{graph_of, places_imported}
use Rattle.qtt_graph.proofs.places.Places.all_imported.Given as goal

abbrev pub invariant-loop-import : goal.invariant-loop-import
invariant-loop-import l =
    l.row.items ≡ places_imported (names (graph_of l.self.texts.now)) (take l.import-index l.imports)
