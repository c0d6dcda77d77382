use Rattle.std.proofs.Common.{arith, ◌∙◌, sym, ap, subst}
use Rattle.qtt_graph.specs.Graph.{names}
use Rattle.qtt_graph.specs.Modules.{graph_of, AreImporters}
use Rattle.qtt_graph.proofs.NamePlaces.{once, graph-length}
use Rattle.qtt_graph.proofs.Turning.{importers-at}
use Rattle.qtt_graph.proofs.modules.Modules.importers.Goals as goal

pub returns : goal.returns
returns c =
    let self = c.args.self.now in
    let g = graph_of self.texts.now in
    let long = graph-length self.texts.now in
    let there = c.requires.there in
    subst (AreImporters g c.args.place) (sym (c.deref.ensures.value ∙ ap (λ r. r.items) c.index.ensures))
    (importers-at (λ r. r.items) self.below.items self.above.items g c.args.place _ self.closed
    (once (names g) self.differ) self.imports self.importers (omega (arith, there, long)))
