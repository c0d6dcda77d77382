use Rattle.std.proofs.Common.{◌≡◌, ◌↔◌, IsTrue, map, subst}
use Rattle.qtt_term.specs.Items.{field}
use Rattle.qtt_term.specs.View.{terms}
use Rattle.qtt_term.proofs.EnvironmentShape.{constructor-is}
use Rattle.qtt_term.proofs.environment_shape.is_constructor.Goals as goal

pub returns : goal.returns
returns c =
    let a = c.same_fields-by_fields.result in
    let b = c.same_all-by_result.result in
    constructor-is c.args.constructor.now c.args.fields.now c.args.point.now a b
    (subst (λ xs. IsTrue a ↔ (map field xs ≡ map field c.args.fields.now)) c.deref.ensures.value
    c.same_fields-by_fields.ensures)
    (subst (λ xs. IsTrue b ↔ (terms xs ≡ terms c.args.point.now)) c.deref-2.ensures.value
    c.same_all-by_result.ensures)
