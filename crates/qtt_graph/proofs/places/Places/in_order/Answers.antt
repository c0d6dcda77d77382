use Rattle.std.proofs.Common.{rules, ◌≡◌, ◌∙◌}
use Rattle.std.specs.BTreeMap as tree
use Rattle.qtt_graph.specs.Graph.{names}
use Rattle.qtt_graph.specs.Modules.{graph_of}
use Rattle.qtt_graph.proofs.ByName.{values-in-order}
use Rattle.qtt_graph.proofs.NamePlaces.{once}
use Rattle.qtt_graph.proofs.places.Places.in_order.Goals as goal

pub returns : goal.returns
returns c =
    let self = c.args.self.now in
    let values : c.in_ok-collect.field-0.items ≡ tree.values self.by_name = search rules in
    values ∙ values-in-order (graph_of self.texts.now) self.by_name
    (once (names (graph_of self.texts.now)) c.requires.differ) c.values.ensures.ordered self.found
