use Rattle.std.proofs.Common.{arith, ◌∙◌, sym, ap, subst}
use Rattle.qtt_graph.specs.Graph.{names, below}
use Rattle.qtt_graph.specs.Modules.{graph_of, name_at, ArePlaces}
use Rattle.qtt_graph.proofs.NamePlaces.{once, graph-length}
use Rattle.qtt_graph.proofs.Following.{row-has_places}
use Rattle.qtt_graph.proofs.modules.Modules.imports.Goals as goal

pub returns : goal.returns
returns c =
    let self = c.args.self.now in
    let g = graph_of self.texts.now in
    let long = graph-length self.texts.now in
    let there = c.requires.there in
    subst (λ row. ArePlaces g row (below g (name_at g c.args.place)))
    (sym (c.deref.ensures.value ∙ ap (λ r. r.items) c.index.ensures))
    (row-has_places (λ r. r.items) self.below.items g c.args.place _ self.closed (once (names g) self.differ)
    self.imports (omega (arith, there, long)))
