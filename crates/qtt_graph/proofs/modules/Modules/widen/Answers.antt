use Rattle.std.proofs.Common.{arith, ◌+◌, ◌<◌, ◌∙◌, sym, ap, subst, length, not, take, slice_index_or}
use Rattle.qtt_graph.specs.Modules.{graph_of}
use Rattle.qtt_graph.specs.Near.{Widened}
use Rattle.qtt_graph.proofs.NamePlaces.{graph-length}
use Rattle.qtt_graph.proofs.Turning.{within-row}
use Rattle.qtt_graph.proofs.Searching.{partly, row-noted, row-kept, row-done}
use Rattle.qtt_graph.proofs.modules.Modules.widen.Goals.{then-is_none+in_ok-push, else-is_none}
use Rattle.qtt_graph.proofs.modules.Modules.widen.Goals as goal

pub importers-above-items-requires : goal.importers-above-items-requires
importers-above-items-requires c = record {
  there = within-row (length c.args.self.now.texts.now) c.args.frontier.now c.loop-place.place-index c.requires.there
      c.loop-place-test.true;
}

pub index-requires : goal.index-requires
index-requires c =
    let g = graph_of c.args.self.now.texts.now in
    let low = within-row (length g) c.importers-above-items.result.now c.loop-above.above-index
    c.importers-above-items.ensures.within c.loop-above-test.true in
    let long = graph-length c.args.self.now.texts.now in
    let all = c.loop-above.invariant.all in
    let ok = c.loop-above.near.ok in
    omega (arith, low, long, all, c.requires.all, ok.0)

pub index_mut-requires : goal.index_mut-requires
index_mut-requires c =
    let g = graph_of c.args.self.now.texts.now in
    let low = within-row (length g) c.importers-above-items.result.now c.loop-above.above-index
    c.importers-above-items.ensures.within c.loop-above-test.true in
    let long = graph-length c.args.self.now.texts.now in
    let all = c.loop-above.invariant.all in
    let ok = c.loop-above.near.ok in
    omega (arith, low, long, all, c.requires.all, ok.0)

pub loop-above-preserved : goal.loop-above-preserved
loop-above-preserved c =
    let g = graph_of c.args.self.now.texts.now in
    let near = c.args.near.now.items in
    let done = take c.loop-place.place-index c.args.frontier.now in
    let row = c.importers-above-items.result.now in
    let m = c.loop-above.above-index in
    let within = within-row (length g) row m c.importers-above-items.ensures.within c.loop-above-test.true in
    let long = graph-length c.args.self.now.texts.now in
    let low : slice_index_or row m 0 < length near = omega (arith, within, long, c.requires.all) in
    elim c.if-is_none.branch [
      | then-is_none+in_ok-push w ↦ rw (w.near-is, w.next-is)
          (subst (Widened (partly g done (take (m + 1) row)) c.args.count near _) (sym w.in_ok-push.ensures.items)
          (row-noted g done row m c.args.count near c.loop-above.near.items c.loop-above.next.items
          c.index.result.now c.loop-above-test.true low c.index.ensures
          (ap not (c.is_none.ensures ∙ ap not w.if-is_none.true)) c.loop-above.invariant))
      | else-is_none w ↦ rw (w.near-is, w.next-is)
          (row-kept g done row m c.args.count near c.loop-above.near.items c.loop-above.next.items c.index.result.now
          c.loop-above-test.true low c.index.ensures (ap not (c.is_none.ensures ∙ ap not w.if-is_none.false))
          c.loop-above.invariant)
    ]

pub loop-place-preserved : goal.loop-place-preserved
loop-place-preserved c =
    let g = graph_of c.args.self.now.texts.now in
    let long = graph-length c.args.self.now.texts.now in
    row-done g c.args.frontier.now c.importers-above-items.result.now c.loop-place.place-index
    c.loop-above.above-index c.args.count c.args.near.now.items c.loop-above.near.items c.loop-above.next.items
    (omega (arith, long, c.requires.all)) c.loop-place-test.true c.loop-above-test.false
    c.importers-above-items.ensures c.loop-above.invariant
