use Rattle.std.proofs.Common.{◌≡◌, take, map}
use Rattle.qtt_term.specs.Items.{field}
use Rattle.qtt_term.proofs.environment_shape.same_fields.Given as goal

abbrev pub invariant-loop-i : goal.invariant-loop-i
invariant-loop-i l = map field (take l.i l.ones) ≡ map field (take l.i l.others)
