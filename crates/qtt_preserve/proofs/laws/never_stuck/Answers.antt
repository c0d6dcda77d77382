use Rattle.qtt_preserve.proofs.Facts.{never_stuck_holds as the_law}
use Rattle.qtt_preserve.proofs.laws.never_stuck.Goals as goal

pub returns : goal.returns
returns c = the_law
