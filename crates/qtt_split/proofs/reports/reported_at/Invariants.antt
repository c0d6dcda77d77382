use Rattle.std.proofs.Common.{◌≡◌, ◌++◌, map, option_copied}
use Rattle.qtt_split.specs.Seen.{reported_at}
use Rattle.qtt_split.specs.Sights.{seen_of}
use Rattle.qtt_split.specs.View.{report_of}
use Rattle.qtt_split.proofs.reports.reported_at.Given as goal

abbrev pub invariant-loop-variable : goal.invariant-loop-variable
invariant-loop-variable l =
    reported_at l.count (option_copied l.name) l.place (seen_of l.seen)
    ≡ map report_of l.reported.items ++ reported_at l.variable (option_copied l.name) l.place (seen_of l.seen)
