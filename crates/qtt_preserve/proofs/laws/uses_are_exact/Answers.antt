use Rattle.qtt_preserve.proofs.Facts.{uses_are_exact_holds as the_law}
use Rattle.qtt_preserve.proofs.laws.uses_are_exact.Goals as goal

pub returns : goal.returns
returns c = the_law
