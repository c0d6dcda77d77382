use Rattle.std.proofs.Common.{◌<◌, length, subst, ◌∙◌, sym}
use Rattle.qtt_graph.specs.Modules.{graph_of}
use Rattle.qtt_load.specs.Order.{ring_refusal}
use Rattle.qtt_load.proofs.Places.{rings-have-places, no-empty-ring, no-ring-unplaced}
use Rattle.std.specs.Option.{IsSome}
use Rattle.qtt_load.proofs.order.ring_refusal.Goals as goal

pub unreachable-requires : goal.unreachable-requires
unreachable-requires c =
    let g = graph_of c.args.texts.now in
    let way = c.args.way.items in
    no-empty-ring g way (subst (λ w. length w < 1) c.as_slice.ensures.value c.in_default.len_below)
    (rings-have-places g way c.requires.told)

pub unreachable-requires-in_default-import_place : goal.unreachable-requires-in_default-import_place
unreachable-requires-in_default-import_place c =
    let g = graph_of c.args.texts.now in
    let way = c.as_slice.result.now in
    let placed : IsSome (ring_refusal g way) =
    rw c.as_slice.ensures.value (rings-have-places g c.args.way.items c.requires.told) in
    no-ring-unplaced g way c.first-item.result c.second.result.now c.in-len1-up.len_at_least c.first-item.is
    c.second.ensures (sym c.import_place.ensures ∙ c.in_default-import_place.is) placed
