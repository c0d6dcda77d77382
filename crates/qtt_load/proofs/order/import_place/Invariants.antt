use Rattle.std.proofs.Common.{◌≡◌, drop}
use Rattle.qtt_graph.specs.Modules.{graph_of}
use Rattle.qtt_graph.specs.Ring.{import_place}
use Rattle.qtt_load.proofs.order.import_place.Given as goal

abbrev pub invariant-loop-text : goal.invariant-loop-text
invariant-loop-text l =
    import_place (graph_of (drop l.text-index l.texts)) l.importer l.imported ≡
    import_place (graph_of l.texts) l.importer l.imported
