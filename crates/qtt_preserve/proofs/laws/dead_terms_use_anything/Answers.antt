use Rattle.qtt_preserve.proofs.Facts.{dead_terms_use_anything_holds as the_law}
use Rattle.qtt_preserve.proofs.laws.dead_terms_use_anything.Goals as goal

pub returns : goal.returns
returns c = the_law
