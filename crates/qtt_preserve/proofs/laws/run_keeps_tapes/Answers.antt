use Rattle.qtt_preserve.proofs.Facts.{run_keeps_tapes_holds as the_law}
use Rattle.qtt_preserve.proofs.laws.run_keeps_tapes.Goals as goal

pub returns : goal.returns
returns c = the_law
