use Rattle.std.proofs.Common.{◌≡◌, drop}
use Rattle.qtt_unify.proofs.Families.{all_plain}
use Rattle.qtt_unify.proofs.plain.is_plain.Given as goal

abbrev pub invariant-loop-constructor : goal.invariant-loop-constructor
invariant-loop-constructor l =
    all_plain l.constructor-items ≡ all_plain (drop l.constructor-index l.constructor-items)
