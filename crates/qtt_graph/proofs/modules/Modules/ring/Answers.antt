use Rattle.std.proofs.Common.{arith, ◌∙◌, sym, ap, slice_index_or, not}
use Rattle.std.specs.Prelude.{option_map}
use Rattle.qtt_graph.specs.Graph.{names, in_byte_order}
use Rattle.qtt_graph.specs.Ring.{back}
use Rattle.qtt_graph.specs.Modules.{graph_of, name_at}
use Rattle.qtt_graph.proofs.NamePlaces.{graph-length}
use Rattle.qtt_graph.proofs.Levelled.{order-at, order-named}
use Rattle.qtt_graph.proofs.Ways.{first-ring-at, no-ring-step}
use Rattle.qtt_graph.proofs.Visiting.{ranked-passed}
use Rattle.qtt_graph.proofs.modules.Modules.ring.Goals.{then-is_none+in_ok-way+in_default, else-is_none}
use Rattle.qtt_graph.proofs.modules.Modules.ring.Goals as goal

pub index-requires : goal.index-requires
index-requires c =
    let g = graph_of c.args.self.now.texts.now in
    let there = order-at g c.order-place-items.result.now c.loop-place.place-index c.order-place-items.ensures
    c.loop-place-test.true in
    let all = c.requires.ranks.all in
    let ok = c.args.ranks.now.ok in
    omega (arith, there, all, ok.0)

pub way_back-requires : goal.way_back-requires
way_back-requires c =
    let g = graph_of c.args.self.now.texts.now in
    let there = order-at g c.order-place-items.result.now c.loop-place.place-index c.order-place-items.ensures
    c.loop-place-test.true in
    let long = graph-length c.args.self.now.texts.now in
    record { there = omega (arith, there, long) }

pub returns-in-Some : goal.returns-in-Some
returns-in-Some c =
    let g = graph_of c.args.self.now.texts.now in
    let named = order-named g c.order-place-items.result.now c.loop-place.place-index c.order-place-items.ensures
    c.loop-place-test.true in
    sym (first-ring-at g (in_byte_order (names g)) c.loop-place.place-index c.in-Some.way.items named.1
    c.loop-place.invariant
    (ap (back g) (sym named.0) ∙ sym c.in_ok-way.ensures ∙ ap (option_map (λ w. w.items)) c.in-Some.is))

pub loop-place-preserved : goal.loop-place-preserved
loop-place-preserved c =
    let g = graph_of c.args.self.now.texts.now in
    let place = slice_index_or c.order-place-items.result.now c.loop-place.place-index 0 in
    let there = order-at g c.order-place-items.result.now c.loop-place.place-index c.order-place-items.ensures
    c.loop-place-test.true in
    let named = order-named g c.order-place-items.result.now c.loop-place.place-index c.order-place-items.ensures
    c.loop-place-test.true in
    let next = no-ring-step g (in_byte_order (names g)) c.loop-place.place-index named.1 c.loop-place.invariant in
    elim c.if-is_none.branch [
      | then-is_none+in_ok-way+in_default w ↦
          next (ap (back g) (sym named.0) ∙ sym w.in_ok-way.ensures ∙
          ap (option_map (λ way. way.items)) w.in_default.is)
      | else-is_none w ↦
          next (ap (back g) (sym named.0) ∙
          ranked-passed g (name_at g place) c.index.result.now
          (c.requires.ranks.each place c.index.result.now there ∙ sym c.index.ensures)
          (c.is_none.ensures ∙ ap not w.if-is_none.false))
    ]
