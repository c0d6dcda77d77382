use Rattle.std.proofs.Common.{◌≡◌, ◌++◌}
use Rattle.qtt_split.specs.Seen.{live}
use Rattle.qtt_split.specs.Sights.{sights_of}
use Rattle.qtt_split.proofs.reverting.live.Given as goal

abbrev pub invariant-loop-variable : goal.invariant-loop-variable
invariant-loop-variable l =
    live l.count (sights_of l.seen) ≡ l.live.items ++ live l.variable (sights_of l.seen)
