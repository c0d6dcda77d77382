use Rattle.std.proofs.Common.{◌≡◌, ◌↔◌, IsTrue, subst}
use Rattle.std.proofs.lemmas.Bool.{eqb-true, eq-eqb}
use Rattle.qtt_term.specs.View.{terms}
use Rattle.qtt_term.proofs.EnvironmentShape.{header-is}
use Rattle.qtt_term.proofs.environment_shape.has_header.Goals as goal

pub returns : goal.returns
returns c =
    let F = c.args.family.now in
    let a = c.same_all-by_params.result in
    let b = c.same_all-by_indices.result in
    header-is F c.args.params.now c.args.indices.now _ a b
    (λ e. eqb-true F.level 0 e, λ e. eq-eqb F.level 0 e)
    (subst (λ xs. IsTrue a ↔ (terms xs ≡ terms c.args.params.now)) c.deref.ensures.value c.same_all-by_params.ensures)
    (subst (λ xs. IsTrue b ↔ (terms xs ≡ terms c.args.indices.now)) c.deref-2.ensures.value
    c.same_all-by_indices.ensures)
