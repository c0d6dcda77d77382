use Rattle.std.proofs.Common.{◌≡◌, map, drop}
use Rattle.qtt_term.specs.Items.{family, constructor}
use Rattle.qtt_positive.specs.FirstBad.{bad_from, first_bad}
use Rattle.qtt_positive.proofs.fields.positive.Given as goal

abbrev pub invariant-loop-constructor : goal.invariant-loop-constructor
invariant-loop-constructor l =
    first_bad l.family.id (family l.family) ≡ bad_from l.family.id l.constructor
    (map constructor (drop l.constructor l.family.constructors.items))
