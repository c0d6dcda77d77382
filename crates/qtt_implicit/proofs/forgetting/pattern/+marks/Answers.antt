-- The marks of a constructor's patterns.
use Rattle.std.proofs.Common.{arith}
use Rattle.qtt_implicit.proofs.ForgottenParts.{shape_parts, constructor_form}
use Rattle.qtt_implicit.proofs.forgetting.pattern.+marks.Goals as goal

pub push_marks-returns-in-Constructor : goal.push_marks-returns-in-Constructor
push_marks-returns-in-Constructor t c =
    rw (constructor_form _ _ _ _ _ c.in-Constructor.is) (grind (arith, shape_parts))
