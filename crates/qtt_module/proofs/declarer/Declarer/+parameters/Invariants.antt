use Rattle.std.proofs.Common.{length}
use Rattle.qtt_module.proofs.declarer.Declarer.+parameters.Given as goal

abbrev pub decreases-parameters : goal.decreases-parameters
decreases-parameters g l = length l.params.now
