use Rattle.std.proofs.Common.{◌≡◌, length, eqb, ap, ◌∙◌, arith}
use mathlib.Core.Path.{ap₂}
use Rattle.std.specs.List.{list_all}
use Rattle.qtt_term.specs.Globals.{env}
use Rattle.qtt_term.specs.Items.{constructor}
use Rattle.qtt_term.specs.Shape.{all_in_shape, constructor_in_shape}
use Rattle.qtt_term.specs.View.{terms, side_by_side}
use Rattle.qtt_term.proofs.EnvironmentShape.{family-tests}
use Rattle.qtt_term.proofs.environment_shape.family_in_shape.Goals as goal

pub returns : goal.returns
returns c =
    let E = env c.args.env.now in
    let F = c.args.family.now in
    let n : c.len.result ≡ length F.indices.items = c.len.ensures ∙ omega (arith, F.indices.ok.0) in
    family-tests E F c.all_in_shape-params.result c.all_in_shape-indices.result
    c.constructors_in_shape-constructors.result c.are_counted-counted.result
    (c.all_in_shape-params.ensures ∙ ap (λ ts. all_in_shape E (side_by_side (terms ts))) c.deref.ensures.value)
    (c.all_in_shape-indices.ensures ∙ ap (λ ts. all_in_shape E (side_by_side (terms ts))) c.deref-2.ensures.value)
    (c.constructors_in_shape-constructors.ensures
    ∙ ap (list_all (λ c. constructor_in_shape E (constructor c))) c.deref-3.ensures.value)
    (c.are_counted-counted.ensures
    ∙ ap₂ (λ n cs. list_all (λ c. eqb (length c.result.items) n) cs) n c.deref-4.ensures.value)
