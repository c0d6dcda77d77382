use Rattle.std.proofs.Common.{◌≡◌, Some, option_map, slice_get, sym, ap, ◌∙◌}
use Rattle.std.proofs.lemmas.Option.{slice_get-map}
use Rattle.qtt_holes.specs.View.{hole}
use Rattle.qtt_cli.proofs.Found.{hole-here}
use Rattle.qtt_cli.proofs.holes.first_hole.Goals as goal

pub returns-in-Some : goal.returns-in-Some
returns-in-Some c =
    let checked = c.checked-item.result in
    let h = c.in-Some.hole.now in
    let there : slice_get checked.holes.items 0 ≡ Some h =
    ap (λ hs. slice_get hs 0) (sym c.deref.ensures.value) ∙ sym c.in-Some.ensures.value in
    sym (hole-here c.args.order.now c.loop-checked.checked-index checked c.loop-checked-test.true c.checked-item.is
    (hole h) (slice_get-map hole checked.holes.items 0 ∙ ap (option_map hole) there)) ∙ c.loop-checked.invariant
