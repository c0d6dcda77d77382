use Rattle.std.proofs.Common.{rules, arith, ◌≡◌, ◌∙◌, sym, ap, map, length, slice_index_or, None}
use Rattle.std.proofs.lemmas.Fn.{filter_same}
use Rattle.std.proofs.lemmas.List.{take_all, length-map}
use Rattle.qtt_graph.specs.Modules.{graph_of, order_of}
use Rattle.qtt_graph.specs.Levels.{levels}
use Rattle.qtt_graph.proofs.NamePlaces.{graph-length}
use Rattle.qtt_graph.proofs.Levelled.{levels-empty, levels-length, order-at, rank-at, put-step, pass-step, whatever-else, is_filled, filled, filled-kept, filled-ranked}
use Rattle.qtt_graph.proofs.modules.Modules.by_rank.Goals.{in-Some+in_ok-number+in_ok-push, in_default}
use Rattle.qtt_graph.proofs.modules.Modules.by_rank.Goals as goal

pub loop-place-init : goal.loop-place-init
loop-place-init c = c.in_ok-levels.ensures ∙ sym (levels-empty c.args.ranks.now.items 0
    (length c.args.self.now.texts.now))

pub index-requires : goal.index-requires
index-requires c =
    let self = c.args.self.now in
    let there = order-at (graph_of self.texts.now) c.deref-place-items.result.now c.loop-place.place-index
    (c.deref-place-items.ensures.value ∙ self.ordered) c.loop-place-test.true in
    let all = c.requires.ranks.all in
    let ok = c.args.ranks.now.ok in
    omega (arith, there, all, ok.0)

pub index_mut-requires : goal.index_mut-requires
index_mut-requires c =
    let self = c.args.self.now in
    let g = graph_of self.texts.now in
    let ranks = c.args.ranks.now.items in
    let place = slice_index_or c.deref-place-items.result.now c.loop-place.place-index 0 in
    let there = order-at g c.deref-place-items.result.now c.loop-place.place-index
    (c.deref-place-items.ensures.value ∙ self.ordered) c.loop-place-test.true in
    let all = c.requires.ranks.all in
    let is = whatever-else ranks place None c.index.result.now (omega (arith, there, all)) ∙ sym c.index.ensures ∙
    c.in-Some.is in
    let low = rank-at g self.closed ranks place c.in-Some.rank c.requires.ranks there is in
    let long = graph-length self.texts.now in
    let ok = c.loop-place.levels.ok in
    let many : length c.loop-place.levels.items ≡ length self.texts.now =
    sym (length-map c.loop-place.levels.items (λ l. l.items)) ∙ ap length c.loop-place.invariant ∙
    levels-length ranks _ 0 (length self.texts.now) in
    omega (arith, low, long, ok.0, many)

pub loop-place-preserved : goal.loop-place-preserved
loop-place-preserved c =
    let self = c.args.self.now in
    let g = graph_of self.texts.now in
    let ranks = c.args.ranks.now.items in
    let row = c.deref-place-items.result.now in
    let place = slice_index_or row c.loop-place.place-index 0 in
    let there = order-at g row c.loop-place.place-index (c.deref-place-items.ensures.value ∙ self.ordered)
    c.loop-place-test.true in
    let all = c.requires.ranks.all in
    let is = whatever-else ranks place None c.index.result.now (omega (arith, there, all)) ∙ sym c.index.ensures in
    let long = graph-length self.texts.now in
    elim c.match-index.branch [
      | in-Some+in_ok-number+in_ok-push w ↦ rw w.levels-is
          (let low = rank-at g self.closed ranks place w.in-Some.rank c.requires.ranks there (is ∙ w.in-Some.is) in
          put-step (λ l. l.items) c.loop-place.levels.items w.push.new.self ranks row c.loop-place.place-index
          (length self.texts.now) w.in-Some.rank w.index_mut.result.now w.in_ok-number.field-0 c.loop-place-test.true
          (is ∙ w.in-Some.is) (omega (arith, low, long)) c.loop-place.invariant w.index_mut.ensures.value
          w.in_ok-number.ensures w.in_ok-push.ensures.items)
      | in_default w ↦ rw w.levels-is
          (c.loop-place.invariant ∙
          pass-step ranks row c.loop-place.place-index (length self.texts.now) c.loop-place-test.true
          (is ∙ w.in_default.is))
    ]

pub returns : goal.returns
returns c =
    let self = c.args.self.now in
    let kept = filter_same _ (λ l. is_filled l.items) _ (λ x b f' k. search rules) _ _ c.retain.ensures.filtered in
    let g = graph_of self.texts.now in
    let long = graph-length self.texts.now in
    let all = c.loop-place-test.false in
    let order = c.deref-place-items.ensures.value ∙ self.ordered in
    ap (map (λ l. l.items)) kept ∙ filled-kept (λ l. l.items) c.loop-place.levels.items ∙
    ap filled (c.loop-place.invariant ∙
    ap (λ ps. levels c.args.ranks.now.items ps 0 (length self.texts.now))
    (take_all c.loop-place.place-index c.deref-place-items.result.now all ∙ order) ∙
    ap (levels c.args.ranks.now.items (order_of g) 0) (sym long)) ∙
    filled-ranked g c.args.ranks.now.items c.requires.ranks
