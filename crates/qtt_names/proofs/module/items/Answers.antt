-- The item that stops the others.
use Rattle.std.proofs.Common.{subst}
use Rattle.qtt_syntax.specs.View.{item_of}
use Rattle.qtt_names.specs.Resolved.{Before, at_start, behind, filled_item}
use Rattle.qtt_names.specs.View.{scope, item_list}
use Rattle.qtt_names.proofs.Steps.{in_turn-at}
use Rattle.qtt_names.proofs.Passing.{Fails, fails, passed, here, later}
use Rattle.qtt_names.proofs.module.items.Goals as goal

pub returns-in_err-item : goal.returns-in_err-item
returns-in_err-item c =
    let seen = scope c.args.scope.now in
    let e = c.in_err-item.field-0.0 in
    let at = in_turn-at (filled_item seen) behind item_of at_start c.args.text.now c.loop-item.item-index
    c.item-item.result c.loop-item-test.true c.item-item.is in
    let stops = subst (λ (b : Before). Fails e (filled_item seen b (item_of c.item-item.result)))
    c.loop-item.invariant.behind (fails item_of e _ c.in_err-item.ensures.gives) in
    passed item_list c.from_residual-in_err-item.result e _ c.from_residual-in_err-item.ensures.1
    (rw at (later e _ _ _ c.loop-item.invariant.so_far (here e _ _ (here e _ _ stops))))
