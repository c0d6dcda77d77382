use Rattle.qtt_split.proofs.Reported.{ToldSoFar}
use Rattle.qtt_split.proofs.reports.+reports.Given as goal

abbrev pub invariant-clause_reports-loop-place : goal.invariant-clause_reports-loop-place
invariant-clause_reports-loop-place l = ToldSoFar l.count l.patterns l.seen l.place l.told.items
