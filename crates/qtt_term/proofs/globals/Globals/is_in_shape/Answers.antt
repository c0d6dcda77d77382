use Rattle.qtt_term.proofs.EnvironmentShape.{environment-is}
use Rattle.qtt_term.proofs.globals.Globals.is_in_shape.Goals as goal

pub returns : goal.returns
returns c =
    environment-is c.args.self.now c.families.result.now c.definitions.result.now c.has_prim-prims.result
    c.families_in_shape-families.result c.definitions_in_shape-definitions.result
    c.families.ensures.all c.definitions.ensures.all c.has_prim-prims.ensures c.families_in_shape-families.ensures
    c.definitions_in_shape-definitions.ensures
