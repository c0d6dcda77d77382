use Rattle.std.proofs.Common.{◌≡◌, ◌+◌, length, ap, subst, sym, ◌∙◌, arith}
use Rattle.std.specs.Vec.Iter.{into_iter_items}
use Rattle.qtt_term.specs.Keyed.{all_inserted, CanInsertAll}
use Rattle.qtt_term.proofs.Order.{ascends-inserted}
use Rattle.qtt_term.proofs.keyed.place_all.Goals as goal

pub loop-item-preserved : goal.loop-item-preserved
loop-item-preserved g c =
    let key = g.T.Keyed.key in
    let before = c.loop-item.invariant in
    let step = (c.in-Some.ensures.steps).0 in
    let rest = into_iter_items c.next.new.self in
    let new_ids = subst (λ xs. CanInsertAll key xs c.loop-item.items.items) step before.new_ids in
    let count : length (into_iter_items c.loop-item.item-iterator) ≡ length rest + 1 = omega (arith, ap length step) in
    rw c.place.ensures.items (record {
      room = omega (arith, count, before.room, c.place.ensures.len, c.place.ensures.capacity);
      ascend = ascends-inserted key c.in-Some.item c.loop-item.items.items before.ascend new_ids.0;
      new_ids = new_ids.1;
      goes_on = sym (ap (λ xs. all_inserted key xs c.loop-item.items.items) step) ∙ before.goes_on;
    })
