-- The variables of a constructor's patterns.
use Rattle.std.proofs.Common.{arith}
use Rattle.qtt_names.proofs.Shapes.{shape_parts, constructor_form}
use Rattle.qtt_names.proofs.pattern.+variables.Goals as goal

pub push_variables-returns-in-Constructor : goal.push_variables-returns-in-Constructor
push_variables-returns-in-Constructor t c =
    rw (constructor_form _ _ _ _ _ c.in-Constructor.is) (grind (arith, shape_parts))
