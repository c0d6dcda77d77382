-- The slots, turned round.
use Rattle.std.proofs.Common.{◌∙◌, ◌++◌, ◌-◌, ap, sym, ℕ, map, reverse, length}
use mathlib.Core.Path.{ap₂}
use Rattle.qtt_implicit.specs.Matching.{Slots}
use Rattle.qtt_implicit.specs.TextTypes.{given_list}
use Rattle.qtt_implicit.specs.Walk.{in_braces}
use Rattle.qtt_implicit.proofs.Braces.{empties, some, turned_slots}
use Rattle.qtt_implicit.proofs.Standing.{if_ok}
use Rattle.qtt_implicit.proofs.filling.signature.Signature.open_slots.Goals as goal

pub returns : goal.returns
returns c =
    let ts = in_braces (given_list c.args.call.givens.now) in
    let p = c.args.self.params in
    let b = c.args.self.braces in
    let q = b - length ts in
    let left = c.saturating_sub.ensures ∙ ap (λ (k : ℕ). b - k) c.requires in
    if_ok c.empty_slots-2.result _ _ (λ s e. e
    ∙ ap₂ (λ (k : ℕ) (τ : Slots). empties k ++ τ) left (c.in_ok-braced.ensures
    ∙ ap (λ (τ : Slots). reverse (map some ts) ++ τ) (c.in_ok-params.ensures
    ∙ ap (λ (τ : Slots). empties p ++ τ) c.in_ok-none.ensures))
    ∙ sym (turned_slots p q ts)) c.empty_slots-2.ensures
