-- The items so far are filled; the others are still to come.
use Rattle.std.proofs.Common.{◌≡◌, map, drop}
use Rattle.qtt_base.specs.Limits.{standard}
use Rattle.qtt_syntax.specs.View.{item_of}
use Rattle.qtt_implicit.specs.Filled.{filled_items}
use Rattle.qtt_implicit.specs.KnownItems.{known_of}
use Rattle.qtt_implicit.proofs.Growth.{behind_items}
use Rattle.qtt_implicit.proofs.filling.families.Tools.items.Given as goal

abbrev pub invariant-loop-item : goal.invariant-loop-item
invariant-loop-item l =
    filled_items standard.filled_nodes (known_of l.fn.known) (map item_of l.source) ≡
    behind_items (map item_of l.items.items)
    (filled_items standard.filled_nodes (known_of l.known) (map item_of (drop l.item-index l.source)))
