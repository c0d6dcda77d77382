use Rattle.qtt_preserve.proofs.Facts.{tapes_closed_once_holds as the_law}
use Rattle.qtt_preserve.proofs.laws.tapes_closed_once.Goals as goal

pub returns : goal.returns
returns c = the_law
