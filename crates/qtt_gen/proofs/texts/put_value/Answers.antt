use Rattle.std.proofs.Common.{rules, ◌≡◌, ◌∙◌, ap, sym, ℤ, pos, w64, FitsSigned}
use Rattle.std.specs.Fmt.{signed_decimal}
use Rattle.std.proofs.lemmas.Int.{to_z-of_z}
use Rattle.qtt_gen.specs.Generated.{value}
use Rattle.qtt_gen.proofs.texts.put_value.Goals as goal

pub returns : goal.returns
returns c =
    let fits : FitsSigned w64 c.value.result = search rules in
    let told : c.format.result.now ≡ signed_decimal (value c.args.i c.args.j (pos 0)) =
    c.format.ensures.text ∙
    ap (λ (z : ℤ). signed_decimal z) (to_z-of_z w64 c.value.result fits ∙ c.value.ensures) in
    rw (sym told) c.put.ensures
