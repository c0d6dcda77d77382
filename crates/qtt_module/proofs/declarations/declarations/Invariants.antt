use Rattle.std.proofs.Common.{◌≡◌, ◌++◌, List, map}
use Rattle.std.specs.Vec.Iter.{into_iter_items}
use Rattle.qtt_syntax.specs.declared.module.Item.{Item}
use Rattle.qtt_syntax.specs.View.{item_of}
use Rattle.qtt_module.specs.Declarations.{declarations}
use Rattle.qtt_module.specs.Declaring.{all_declared}
use Rattle.qtt_module.proofs.declarations.declarations.Given as goal

abbrev pub invariant-loop-item : goal.invariant-loop-item
invariant-loop-item l =
    (front : List Item) × (l.fn.items.items ≡ front ++ into_iter_items l.item-iterator) ×
    (all_declared l.declared.items ≡ declarations (map item_of front))
