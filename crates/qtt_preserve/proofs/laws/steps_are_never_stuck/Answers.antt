use Rattle.qtt_preserve.proofs.Facts.{steps_are_never_stuck_holds as the_law}
use Rattle.qtt_preserve.proofs.laws.steps_are_never_stuck.Goals as goal

pub returns : goal.returns
returns c = the_law
