-- The next item is filled behind the others, or refused.
use Rattle.std.proofs.Common.{◌∙◌, ap, sym, map, drop, ◌+◌, List}
use Rattle.qtt_syntax.specs.View.{item_of}
use Rattle.qtt_syntax.specs.Tree.{Item}
use Rattle.qtt_implicit.specs.Filled.{filled_items}
use Rattle.qtt_implicit.specs.KnownItems.{known_of}
use Rattle.qtt_implicit.proofs.FilledTexts.{items_exit, items_left, items_more, next_item}
use Rattle.qtt_implicit.proofs.Growth.{all_behind, behind_items, next_refused, one_more_filled}
use Rattle.qtt_implicit.proofs.filling.families.Tools.items.Goals as goal

pub returns-in_err-filled : goal.returns-in_err-filled
returns-in_err-filled c =
    let xs = c.args.source.now in
    let i = c.loop-item.item-index in
    let K = known_of c.loop-item.known in
    let done = map item_of c.loop-item.items.items in
    let x = c.item-item.result in
    items_exit _ _ _ _ c.from_residual-in_err-filled.ensures.1
    (next_refused 1000000 K _ done (item_of x) (map item_of (drop (i + 1) xs)) _
    (c.loop-item.invariant
    ∙ ap (λ (is : List Item). behind_items done (filled_items 1000000 K is))
    (next_item xs i x c.loop-item-test.true c.item-item.is))
    c.in_err-filled.ensures)

pub loop-item-preserved : goal.loop-item-preserved
loop-item-preserved c =
    let xs = c.args.source.now in
    let i = c.loop-item.item-index in
    let K = known_of c.loop-item.known in
    let L = known_of c.filled.new.known in
    let done = map item_of c.loop-item.items.items in
    let x = c.item-item.result in
    let h = c.in_ok-filled.ensures in
    let rest = map item_of (drop (i + 1) xs) in
    one_more_filled 1000000 K L _ done (item_of x) (item_of c.in_ok-filled.field-0) h.0 rest
    (c.loop-item.invariant
    ∙ ap (λ (is : List Item). behind_items done (filled_items 1000000 K is))
    (next_item xs i x c.loop-item-test.true c.item-item.is)) h.1 h.2
    ∙ ap (λ (is : List Item). behind_items is (filled_items 1000000 L rest))
    (sym (items_more c.loop-item.items.items c.in_ok-filled.field-0 c.push.new.self.items c.in_ok-push.ensures.items))

pub returns : goal.returns
returns c =
    let L = known_of c.loop-item.known in
    let done = map item_of c.loop-item.items.items in
    c.loop-item.invariant
    ∙ ap (λ (is : List Item). behind_items done (filled_items 1000000 L is))
    (items_left c.args.source.now c.loop-item.item-index c.loop-item-test.false)
    ∙ all_behind done L.own
