use Rattle.std.proofs.Common.{◌≡◌, map, take}
use Rattle.qtt_holes.specs.View.{report_of as hole_report_of}
use Rattle.qtt_split.specs.View.{report_of}
use Rattle.qtt_module.proofs.sides.hole_reports.Given as goal

abbrev pub invariant-loop-report : goal.invariant-loop-report
invariant-loop-report l = map hole_report_of l.told.items ≡ map report_of (take l.report-index l.reports)
