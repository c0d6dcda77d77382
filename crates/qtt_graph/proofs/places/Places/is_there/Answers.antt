use Rattle.std.proofs.Common.{◌∙◌, sym, ap}
use Rattle.std.specs.Prelude.{is_some, codes}
use Rattle.qtt_graph.specs.Graph.{names, same_name}
use Rattle.qtt_graph.specs.Modules.{graph_of}
use Rattle.qtt_graph.proofs.NamePlaces.{there-is}
use Rattle.qtt_graph.proofs.places.Places.is_there.Goals as goal

pub returns-else-eq : goal.returns-else-eq
returns-else-eq c =
    c.is_some.ensures ∙ ap is_some c.imported.ensures ∙
    there-is (names (graph_of c.args.self.now.texts.now)) c.args.import.now
    (ap (λ n. same_name n (codes "Prim")) (sym c.as_str.ensures.value) ∙ sym c.eq.ensures ∙ c.if-eq.false)
