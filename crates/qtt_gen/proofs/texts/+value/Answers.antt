use Rattle.std.proofs.Common.{rules, ◌≡◌, ◌∙◌, ap, sym, ℕ, ℤ, w64, to_z, of_z, FitsSigned}
use Rattle.std.proofs.lemmas.Int.{to_z-of_z}
use Rattle.qtt_gen.specs.Generated.{next, step, value}
use Rattle.qtt_gen.proofs.Pieces.{value_below}
use Rattle.qtt_gen.proofs.texts.+value.Goals as goal

pub returns-in-Some : goal.returns-in-Some
returns-in-Some t c =
    let fits : FitsSigned w64 c.value.result = search rules in
    let fits_here : FitsSigned w64 c.step-here.result = search rules in
    let b = c.in-Some.below in
    let here : to_z w64 (of_z w64 c.step-here.result) ≡ step c.args.i c.args.j c.args.x =
    to_z-of_z w64 c.step-here.result fits_here ∙ c.step-here.ensures ∙
    ap (λ (z : ℤ). step c.args.i c.args.j z) (to_z-of_z w64 c.args.x c.ranges.x) in
    to_z-of_z w64 c.value.result fits ∙ c.value.ensures ∙
    ap (λ (k : ℕ). value b k (to_z w64 (of_z w64 c.step-here.result))) c.next.ensures.next ∙
    ap (λ (z : ℤ). value b (next c.args.j) z) here ∙
    sym (value_below c.args.i c.args.j b c.args.x c.in-Some.ensures.0 c.in-Some.ensures.1)
