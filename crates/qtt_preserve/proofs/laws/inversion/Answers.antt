use Rattle.qtt_preserve.proofs.Facts.{inversion_holds as the_law}
use Rattle.qtt_preserve.proofs.laws.inversion.Goals as goal

pub returns : goal.returns
returns c = the_law
