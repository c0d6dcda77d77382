use Rattle.std.proofs.Common.{arith, ◌+◌, ◌<◌, sym, ap, subst, map, length, slice_index_or}
use Rattle.std.proofs.lemmas.List.{length-map}
use Rattle.qtt_graph.specs.Modules.{IsWithin}
use Rattle.qtt_graph.proofs.Turning.{Turning, within-row, turning-more, row-there, row-put}
use Rattle.qtt_graph.proofs.modules.turned.Goals as goal

pub index_mut-requires : goal.index_mut-requires
index_mut-requires c =
    let rows = map (λ r. r.items) c.args.below.now in
    let row = c.deref-target-items.result.now in
    let is = row-there (λ r. r.items) c.args.below.now c.index-below-place.result row c.loop-place.place
    c.loop-place-test.true c.index-below-place.is c.deref-target-items.ensures.value in
    let low = within-row (length rows) row c.loop-target.target-index
    (subst (IsWithin (length rows)) (sym is) (c.requires.within c.loop-place.place)) c.loop-target-test.true in
    let all = c.loop-target.invariant.all in
    let many = length-map c.loop-target.above.items (λ r. r.items) in
    let ok = c.loop-target.above.ok in
    omega (arith, low, all, many, ok.0)

pub loop-target-preserved : goal.loop-target-preserved
loop-target-preserved c =
    let rows = map (λ r. r.items) c.args.below.now in
    let above = c.loop-target.above.items in
    let row = c.deref-target-items.result.now in
    let place = c.loop-place.place in
    let m = c.loop-target.target-index in
    let target = slice_index_or row m 0 in
    let is = row-there (λ r. r.items) c.args.below.now c.index-below-place.result row place c.loop-place-test.true
    c.index-below-place.is c.deref-target-items.ensures.value in
    let low = within-row (length rows) row m (subst (IsWithin (length rows)) (sym is) (c.requires.within place))
    c.loop-target-test.true in
    let all = c.loop-target.invariant.all in
    let many = length-map above (λ r. r.items) in
    let inside : target < length above = omega (arith, low, all, many) in
    subst (λ turned. Turning rows turned place (m + 1))
    (sym (row-put (λ r. r.items) above c.push.new.self c.index_mut.result.now target place inside
    c.index_mut.ensures.value c.in_ok-push.ensures.items))
    (turning-more rows (map (λ r. r.items) above) place m target
    (subst (λ ps. m < length ps) is c.loop-target-test.true) (ap (λ ps. slice_index_or ps m 0) is) low
    c.loop-target.invariant)
