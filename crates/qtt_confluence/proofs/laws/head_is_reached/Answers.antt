use Rattle.qtt_confluence.proofs.Facts.{head_is_reached as the_law}
use Rattle.qtt_confluence.proofs.laws.head_is_reached.Goals as goal

pub returns : goal.returns
returns c = the_law
