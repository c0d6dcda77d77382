use Rattle.std.proofs.Common.{ap, ◌∙◌}
use Rattle.std.specs.List.{list_all}
use Rattle.qtt_term.specs.Globals.{env}
use Rattle.qtt_term.specs.Shape.{in_shape, all_in_shape}
use Rattle.qtt_term.specs.View.{term, terms, side_by_side}
use Rattle.qtt_term.proofs.EnvironmentShape.{constructor-tests}
use Rattle.qtt_term.proofs.environment_shape.constructor_in_shape.Goals as goal

pub returns : goal.returns
returns c =
    let E = env c.args.env.now in
    constructor-tests E c.args.constructor.now c.vars_in_shape-fields.result c.all_in_shape-point.result
    (c.vars_in_shape-fields.ensures ∙ ap (list_all (λ v. in_shape E (term v.1))) c.deref.ensures.value)
    (c.all_in_shape-point.ensures ∙ ap (λ ts. all_in_shape E (side_by_side (terms ts))) c.deref-2.ensures.value)
