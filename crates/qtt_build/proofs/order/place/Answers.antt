use Rattle.std.proofs.Common.{◌≡◌, Some, map, refl, sym, ap, ◌∙◌, subst}
use Rattle.std.specs.Prelude.{option_map, slice_get}
use Rattle.std.proofs.lemmas.Option.{slice_get-map, slice_get_read}
use Rattle.qtt_module.specs.Text.{Accepted}
use Rattle.qtt_module.specs.TextCalls.{accepted_of}
use Rattle.qtt_build.specs.Answer.{StandsAt}
use Rattle.qtt_build.proofs.Placed.{same-is}
use Rattle.qtt_build.proofs.order.place.Goals as goal

pub returns-then-eq-clause-some : goal.returns-then-eq-clause-some
returns-then-eq-clause-some c =
    let order = c.args.order.now in
    let at = c.loop-checked.checked-index in
    let checked = c.checked-item.result in
    let there : slice_get order at ≡ Some checked =
    slice_get_read order _ at checked refl c.loop-checked-test.true c.checked-item.is in
    let same = same-is checked.exports.name c.args.name.now (sym c.eq.ensures ∙ c.if-eq.true) in
    subst (λ k. StandsAt (map accepted_of order) c.args.name.now k) (sym c.loop-checked.invariant.at)
    (ap (option_map (λ (A : Accepted). A.exports.name))
    (slice_get-map accepted_of order at ∙ ap (option_map accepted_of) there)
    ∙ ap Some same)
