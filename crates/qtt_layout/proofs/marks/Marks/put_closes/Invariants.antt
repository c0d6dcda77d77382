use Rattle.std.proofs.Common.{◌≡◌, ◌-◌, ◌++◌, List, replicate}
use Rattle.qtt_layout.specs.Written.{written}
use Rattle.qtt_layout.specs.declared.laid.Laid.{Laid}
use Rattle.qtt_layout.specs.declared.laid.Laid.TheVariants.{Close}
use Rattle.qtt_layout.proofs.marks.Marks.put_closes.Given as goal

abbrev pub invariant-closes : goal.invariant-closes
invariant-closes l =
    (rest : List Laid) → written l.self (replicate (l.count - l.counter) (Close l.span) ++ rest) ≡ written
    l.fn.self (replicate l.count (Close l.span) ++ rest)
