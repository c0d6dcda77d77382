-- What has been passed is looked up, and what the variables hold is what stands behind it.
use Rattle.std.proofs.Common.{◌≡◌, Ok, map, take, fold}
use Rattle.qtt_syntax.specs.View.{item_of}
use Rattle.qtt_names.specs.Resolved.{Before, at_start, behind, filled_items}
use Rattle.qtt_names.specs.View.{scope}
use Rattle.qtt_names.proofs.module.items.Given as goal

abbrev pub invariant-loop-item : goal.invariant-loop-item
invariant-loop-item l =
    let before : Before = record { items = l.items; groups = l.groups.keys; last = l.last; holes = l.holes.keys } in
    record {
      so_far : filled_items (scope l.scope) at_start (map item_of (take l.item-index l.text)) ≡ Ok
          (map item_of l.done.items);
      behind : before ≡ fold behind at_start (map item_of (take l.item-index l.text));
    }
