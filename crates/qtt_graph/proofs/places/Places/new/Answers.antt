use Rattle.std.proofs.Common.{arith, ◌<◌, ◌∙◌, sym, ap, length}
use Rattle.std.specs.Prelude.{is_some}
use Rattle.std.proofs.lemmas.Map.Text.{btree_map_updates_str}
use Rattle.qtt_graph.specs.Graph.{names}
use Rattle.qtt_graph.specs.Modules.{graph_of}
use Rattle.qtt_graph.proofs.NamePlaces.{place-kept, place-new, differ-there, differ-new, some-copied, name-there, names-length}
use Rattle.qtt_graph.proofs.places.Places.new.Goals.{then-is_some, else-is_some+in_ok-insert}
use Rattle.qtt_graph.proofs.places.Places.new.Goals as goal

pub loop-place-preserved : goal.loop-place-preserved
loop-place-preserved c =
    let texts = c.args.texts.now in
    let ns = names (graph_of texts) in
    let i = c.loop-place.place in
    let n = c.as_str-name.result.now in
    let low = c.loop-place-test.true in
    let long = names-length texts in
    let inside : i < length ns = omega (arith, low, long) in
    let named = c.as_str-name.ensures.value ∙ ap (λ t. t.name) c.index-texts-place.is ∙ sym
    (name-there texts i _ low) in
    let there = c.is_some.ensures ∙ some-copied c.get.result ∙
    ap is_some (c.get.ensures.value ∙ c.loop-place.invariant.0 n) in
    elim c.if-is_some.branch [
      | then-is_some w ↦ rw (w.by_name-is, w.differ-is) (
        (λ q. place-kept ns i n q _ inside named (sym there ∙ w.if-is_some.true) (c.loop-place.invariant.0 q)),
        differ-there ns i n c.loop-place.differ inside named c.loop-place.invariant.1
            (sym there ∙ w.if-is_some.true),
      )
      | else-is_some+in_ok-insert w ↦ rw (w.by_name-is, w.differ-is) (
        (λ q. place-new ns i n q _ _ inside named (sym there ∙ w.if-is_some.false) (c.loop-place.invariant.0 q)
            (btree_map_updates_str c.as_str-name.result.now c.loop-place.by_name w.insert.new.self _
            w.in_ok-insert.ensures.updates q)),
        differ-new ns i n c.loop-place.differ inside named c.loop-place.invariant.1
            (sym there ∙ w.if-is_some.false),
      )
    ]
