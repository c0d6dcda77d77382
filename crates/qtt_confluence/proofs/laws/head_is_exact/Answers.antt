use Rattle.qtt_confluence.proofs.Facts.{head_is_exact as the_law}
use Rattle.qtt_confluence.proofs.laws.head_is_exact.Goals as goal

pub returns : goal.returns
returns c = the_law
