use Rattle.std.proofs.Common.{length}
use Rattle.qtt_module.proofs.declarer.Declarer.+constructors.Given as goal

abbrev pub decreases-constructors : goal.decreases-constructors
decreases-constructors g l = length l.declared.now
