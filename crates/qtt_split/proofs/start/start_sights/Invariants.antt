use Rattle.std.proofs.Common.{◌≡◌, ◌++◌, map}
use Rattle.qtt_split.specs.Seen.{oldest_first}
use Rattle.qtt_split.specs.Sights.{seen_of}
use Rattle.qtt_split.proofs.Started.{opens}
use Rattle.qtt_split.proofs.start.start_sights.Given as goal

abbrev pub invariant-loop-variable : goal.invariant-loop-variable
invariant-loop-variable l =
    opens (oldest_first l.count) ≡ map seen_of l.seen.items ++ opens (oldest_first l.variable)
