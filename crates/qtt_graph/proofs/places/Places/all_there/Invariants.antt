use Rattle.std.proofs.Common.{◌≡◌, true, take}
use Rattle.qtt_graph.specs.Graph.{names, all_there}
use Rattle.qtt_graph.specs.Modules.{graph_of}
use Rattle.qtt_graph.proofs.places.Places.all_there.Given as goal

abbrev pub invariant-loop-import : goal.invariant-loop-import
invariant-loop-import l =
    all_there (names (graph_of l.self.texts.now)) (take l.import-index l.imports) ≡ true
