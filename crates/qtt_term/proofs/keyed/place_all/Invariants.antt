use Rattle.std.proofs.Common.{◌≡◌, ◌+◌, ◌≤◌, length, IsTrue, vec_len, vec_capacity}
use Rattle.std.specs.Vec.Iter.{into_iter_items}
use Rattle.qtt_term.specs.Keyed.{ascends, all_inserted, CanInsertAll}
use Rattle.qtt_term.proofs.keyed.place_all.Given as goal

abbrev pub invariant-loop-item : goal.invariant-loop-item
invariant-loop-item g l = record {
  room : vec_len l.items + length (into_iter_items l.item-iterator) ≤ vec_capacity l.items;
  ascend : IsTrue (ascends g.T.Keyed.key l.items.items);
  new_ids : CanInsertAll g.T.Keyed.key (into_iter_items l.item-iterator) l.items.items;
  goes_on : all_inserted g.T.Keyed.key (into_iter_items l.item-iterator) l.items.items ≡ all_inserted
      g.T.Keyed.key l.fn.more.items l.fn.items.items;
}
