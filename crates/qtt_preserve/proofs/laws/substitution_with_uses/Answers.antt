use Rattle.qtt_preserve.proofs.Facts.{substitution_with_uses_holds as the_law}
use Rattle.qtt_preserve.proofs.laws.substitution_with_uses.Goals as goal

pub returns : goal.returns
returns c = the_law
