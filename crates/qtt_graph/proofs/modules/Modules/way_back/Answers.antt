use Rattle.std.proofs.Common.{arith, ◌∙◌, sym, subst}
use Rattle.qtt_graph.specs.Modules.{graph_of, name_at}
use Rattle.qtt_graph.specs.Near.{Near}
use Rattle.qtt_graph.proofs.NamePlaces.{graph-length}
use Rattle.qtt_graph.proofs.Ways.{back-none, back-some}
use Rattle.qtt_graph.proofs.modules.Modules.way_back.Goals as goal

pub returns-in-Some : goal.returns-in-Some
returns-in-Some c =
    let g = graph_of c.args.self.now.texts.now in
    let near = c.in_ok-near.near.items in
    let there = c.requires.there in
    let long = graph-length c.args.self.now.texts.now in
    sym (back-some g c.args.target c.in-Some.count near c.index.result.now c.in_ok-way-in-Some.field-0.items
    (omega (arith, there, long))
    (subst (λ n. Near g (name_at g c.args.target) n near) (sym long) c.in_ok-near.ensures)
    (sym c.index.ensures ∙ c.in-Some.is) c.in_ok-way-in-Some.ensures)

pub returns : goal.returns
returns c =
    let g = graph_of c.args.self.now.texts.now in
    let near = c.in_ok-near.near.items in
    let there = c.requires.there in
    let long = graph-length c.args.self.now.texts.now in
    sym (back-none g c.args.target near c.index.result.now (omega (arith, there, long))
    (subst (λ n. Near g (name_at g c.args.target) n near) (sym long) c.in_ok-near.ensures)
    (sym c.index.ensures ∙ c.in-None.is))
