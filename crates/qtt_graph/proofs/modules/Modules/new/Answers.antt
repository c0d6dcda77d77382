use Rattle.std.proofs.Common.{arith, ◌∙◌, sym, ap, subst, map}
use Rattle.std.proofs.lemmas.List.{take_all}
use Rattle.qtt_graph.specs.Graph.{names}
use Rattle.qtt_graph.specs.Modules.{graph_of, places_imported, rows_of, order_of, AreWithin, AreTurned}
use Rattle.qtt_graph.proofs.NamePlaces.{once, rows-step, graph-length}
use Rattle.qtt_graph.proofs.Whole.{whole-differs, whole-closed}
use Rattle.qtt_graph.proofs.Turning.{rows-length, rows-within}
use Rattle.qtt_graph.proofs.modules.Modules.new.Goals as goal

pub loop-text-preserved : goal.loop-text-preserved
loop-text-preserved c =
    rows-step (λ r. r.items) c.args.texts.now c.loop-text.text-index c.text-item.result c.loop-text.below.items
    c.push.new.self.items c.in_ok-all_imported.field-0 c.loop-text-test.true c.text-item.is c.loop-text.invariant
    (c.in_ok-all_imported.ensures ∙
    ap (λ ts. places_imported (names (graph_of ts)) c.deref.result.now) c.in_ok-places.ensures ∙
    ap (places_imported (names (graph_of c.args.texts.now))) c.deref.ensures.value)
    c.in_ok-push.ensures.items

pub invariant_of-result-clause-differ : goal.invariant_of-result-clause-differ
invariant_of-result-clause-differ c = whole-differs (graph_of c.args.texts.now) c.requires.whole

pub invariant_of-result-clause-closed : goal.invariant_of-result-clause-closed
invariant_of-result-clause-closed c = whole-closed (graph_of c.args.texts.now) c.requires.whole

pub invariant_of-result-clause-ordered : goal.invariant_of-result-clause-ordered
invariant_of-result-clause-ordered c =
    c.in_ok-order.ensures ∙ ap (λ ts. order_of (graph_of ts)) c.in_ok-places.ensures

pub turned-requires : goal.turned-requires
turned-requires c =
    let texts = c.args.texts.now in
    let g = graph_of texts in
    let rows = rows-length g in
    let long = graph-length texts in
    let all = c.loop-text-test.false in
    let is = ap (map (λ r. r.items)) c.deref-2.ensures.value ∙ c.loop-text.invariant ∙
    take_all c.loop-text.text-index (rows_of g) (omega (arith, rows, long, all)) in
    let one = once (names g) (whole-differs g c.requires.whole) in
    record { within = subst AreWithin (sym is) (rows-within g (whole-closed g c.requires.whole) one) }

pub invariant_of-result-clause-importers : goal.invariant_of-result-clause-importers
invariant_of-result-clause-importers c =
    subst (λ rows. AreTurned (map (λ r. r.items) rows) (map (λ r. r.items) c.in_ok-above.above.items))
    c.deref-2.ensures.value c.in_ok-above.ensures
