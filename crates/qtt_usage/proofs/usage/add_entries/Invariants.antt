use Rattle.std.proofs.Common.{◌≡◌}
use Rattle.qtt_usage.specs.Mult.{◌⊕◌}
use Rattle.qtt_usage.proofs.Entries.{combined}
use Rattle.qtt_usage.proofs.usage.add_entries.Given as goal

abbrev pub invariant-loop-i : goal.invariant-loop-i
invariant-loop-i l = l.entries ≡ combined (λ u w. u ⊕ w) l.i l.fn.entries l.fn.others
