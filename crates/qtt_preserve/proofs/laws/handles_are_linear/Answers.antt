use Rattle.qtt_preserve.proofs.Counted.{handles_are_linear as the_law}
use Rattle.qtt_preserve.proofs.laws.handles_are_linear.Goals as goal

pub returns : goal.returns
returns c = the_law
