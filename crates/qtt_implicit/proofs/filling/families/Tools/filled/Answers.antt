-- An item that is filled, or why it stops.
use Rattle.std.proofs.Common.{◌∙◌, ap, sym, ℕ, Result, Ok}
use Rattle.qtt_base.specs.declared.place.Span.{Span}
use Rattle.qtt_syntax.specs.Tree.{Item}
use Rattle.qtt_implicit.specs.Answering.{counted_item}
use Rattle.qtt_implicit.specs.Filled.{Grown, Refusal, filled_item, grown, place_of}
use Rattle.qtt_implicit.specs.Filling.{Stop}
use Rattle.qtt_implicit.specs.Growing.{grown as grown_item}
use Rattle.qtt_implicit.specs.Items.{item_tree}
use Rattle.qtt_implicit.specs.KnownItems.{known_of}
use Rattle.qtt_implicit.proofs.Growth.{counted_is, refusal_at}
use Rattle.qtt_implicit.proofs.filling.families.Tools.filled.Goals as goal

pub returns-in_ok-written_item-in-Ok : goal.returns-in_ok-written_item-in-Ok
returns-in_ok-written_item-in-Ok c =
    let K = known_of c.args.known.now in
    let I = item_tree c.in_ok-item.item in
    let h = c.in-Ok.ensures.1 in (
      h.0,
      ap (λ (i : Item). filled_item 1000000 K i) (sym c.in_ok-item.ensures)
          ∙ sym (counted_is 1000000 K I)
          ∙ ap (λ (o : Result (Grown × ℕ) Stop). grown 1000000 (place_of I) o) h.1
          ∙ ap (λ (j : Item). let r : Result Grown Refusal = Ok (grown_item j h.0) in r)
          (sym c.in_ok-written_item-in-Ok.ensures),
      h.2,
    )

pub returns-in-Err : goal.returns-in-Err
returns-in-Err c =
    let K = known_of c.args.known.now in
    let I = item_tree c.in_ok-item.item in
    let o = counted_item K I 1000000 in
    refusal_at _ (ap (λ (i : Item). filled_item 1000000 K i) (sym c.in_ok-item.ensures)
    ∙ sym (counted_is 1000000 K I)
    ∙ ap (λ (s : Span). grown 1000000 s o) (sym c.place_of.ensures))
    (c.refused.ensures o c.in-Err.ensures.1)
