use Rattle.std.proofs.Common.{length}
use Rattle.qtt_module.proofs.groups.Group.+all_fit.Given as goal

abbrev pub decreases-all_fit : goal.decreases-all_fit
decreases-all_fit g l = length l.reports.now
