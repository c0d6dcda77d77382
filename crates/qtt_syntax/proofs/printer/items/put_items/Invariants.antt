use Rattle.std.proofs.Common.{◌≡◌, ◌++◌, map, drop}
use Rattle.qtt_syntax.specs.View.{item_of}
use Rattle.qtt_syntax.specs.Words.{written}
use Rattle.qtt_syntax.specs.Printing.{items}
use Rattle.qtt_syntax.proofs.printer.items.put_items.Given as goal

abbrev pub invariant-loop-item : goal.invariant-loop-item
invariant-loop-item l = l.out.items ++ written (items (map item_of (drop l.item-index l.list))) ≡ l.fn.out.items
    ++ written (items (map item_of l.list))
