use Rattle.std.proofs.Common.{◌≡◌, map, take}
use Rattle.qtt_term.specs.Shift.{raised}
use Rattle.qtt_term.specs.Substitution.{ren}
use Rattle.qtt_term.specs.View.{terms}
use Rattle.qtt_split.proofs.substitution.Substitution.deeper.Given as goal

abbrev pub invariant-loop-value : goal.invariant-loop-value
invariant-loop-value l =
    terms l.values.items ≡ map (ren (raised 0 l.by)) (terms (take l.value-index l.value-items))
