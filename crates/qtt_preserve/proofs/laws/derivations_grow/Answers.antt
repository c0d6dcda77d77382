use Rattle.qtt_preserve.proofs.Facts.{derivations_grow_holds as the_law}
use Rattle.qtt_preserve.proofs.laws.derivations_grow.Goals as goal

pub returns : goal.returns
returns c = the_law
