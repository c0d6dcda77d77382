use Rattle.std.proofs.Common.{◌≡◌, ◌∙◌, map, ap}
use Rattle.std.proofs.lemmas.List.{take_all}
use Rattle.qtt_term.specs.Shift.{raised}
use Rattle.qtt_term.specs.Substitution.{ren}
use Rattle.qtt_term.specs.View.{terms}
use Rattle.qtt_split.specs.Substitution.{values_or_raised}
use Rattle.qtt_split.proofs.Substituted.{far-deeper}
use Rattle.qtt_split.proofs.substitution.Substitution.deeper.Goals as goal

pub returns : goal.returns
returns c =
    let s = c.args.self.now in
    let vs = s.values.items in
    let ws = c.loop-value.values.items in
    let n = c.args.by in
    let list = c.deref-value-items.result.now in
    let all : terms ws ≡ map (ren (raised 0 n)) (terms vs) =
    c.loop-value.invariant ∙
    ap (λ us. map (ren (raised 0 n)) (terms us))
    (take_all c.loop-value.value-index list c.loop-value-test.false ∙ c.deref-value-items.ensures.value) in
    λ i. ap (λ b. values_or_raised ws b i) c.in_ok-sum.ensures ∙ far-deeper vs ws s.by n i all
