-- What has been passed is forgotten.
use Rattle.std.proofs.Common.{◌≡◌, map, take}
use Rattle.qtt_syntax.specs.View.{item_of}
use Rattle.qtt_implicit.specs.Forget.{item_forgotten}
use Rattle.qtt_implicit.proofs.forgetting.forget.Given as goal

abbrev pub invariant-loop-item : goal.invariant-loop-item
invariant-loop-item l =
    map item_of l.items.items ≡ map item_forgotten (map item_of (take l.item-index l.text.items.items))
