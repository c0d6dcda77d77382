use Rattle.qtt_term.proofs.Facts.{steps_keep_closed_holds as the_law}
use Rattle.qtt_term.proofs.laws.steps_keep_closed.Goals as goal

pub returns : goal.returns
returns c = the_law
