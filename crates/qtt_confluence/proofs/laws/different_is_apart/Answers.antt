use Rattle.qtt_confluence.proofs.Facts.{different_is_apart as the_law}
use Rattle.qtt_confluence.proofs.laws.different_is_apart.Goals as goal

pub returns : goal.returns
returns c = the_law
