use Rattle.std.proofs.Common.{length}
use Rattle.qtt_module.proofs.groups.Group.+dots_agree.Given as goal

abbrev pub decreases-dots_agree : goal.decreases-dots_agree
decreases-dots_agree g l = length l.dots.now
