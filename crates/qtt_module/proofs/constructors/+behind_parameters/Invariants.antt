use Rattle.std.proofs.Common.{length}
use Rattle.qtt_module.proofs.constructors.+behind_parameters.Given as goal

abbrev pub decreases-behind_parameters : goal.decreases-behind_parameters
decreases-behind_parameters l = length l.values.now
