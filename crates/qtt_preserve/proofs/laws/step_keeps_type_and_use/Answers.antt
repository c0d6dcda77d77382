use Rattle.qtt_preserve.proofs.Facts.{step_keeps_type_and_use_holds as the_law}
use Rattle.qtt_preserve.proofs.laws.step_keeps_type_and_use.Goals as goal

pub returns : goal.returns
returns c = the_law
