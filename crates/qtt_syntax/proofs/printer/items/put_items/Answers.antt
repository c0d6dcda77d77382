use Rattle.std.proofs.Common.{◌≡◌, ℕ, ◌+◌, List, ◌∷◌, ◌++◌, map, drop, ap, append_assoc}
use Rattle.qtt_syntax.specs.View.{item_of}
use Rattle.qtt_syntax.specs.Words.{written}
use Rattle.qtt_syntax.specs.Printing.{items, item}
use Rattle.qtt_syntax.proofs.Written.{one_more, written-append}
use Rattle.qtt_syntax.proofs.printer.items.put_items.Goals as goal

pub loop-item-preserved : goal.loop-item-preserved
loop-item-preserved c =
    let x = c.item-item.result in
    let first = item (item_of x) in
    let rest = items (map item_of (drop (c.loop-item.item-index + 1) c.args.list.now)) in
    let grows : c.put_item.new.out.items ≡ c.loop-item.out.items ++ 10 ∷ written first =
    simp (c.in_ok-put.ensures, append_assoc) at c.in_ok-put_item.ensures in
    one_more (λ xs. written (items (map item_of xs))) c.args.list.now c.loop-item.item-index x
    c.args.out.now.items c.loop-item.out.items c.put_item.new.out.items
    (10 ∷ written first) c.loop-item-test.true c.item-item.is
    (ap (λ (v : List ℕ). 10 ∷ v) (written-append first rest)) c.loop-item.invariant grows
