use Rattle.std.proofs.Common.{◌≡◌}
use Rattle.qtt_usage.specs.Mult.{◌⊙◌}
use Rattle.qtt_usage.proofs.Entries.{combined}
use Rattle.qtt_usage.proofs.usage.scale_entries.Given as goal

abbrev pub invariant-loop-entry : goal.invariant-loop-entry
invariant-loop-entry l = l.entries ≡ combined (λ u w. l.by ⊙ u) l.entry-index l.fn.entries l.fn.entries
