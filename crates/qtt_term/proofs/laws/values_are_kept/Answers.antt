use Rattle.qtt_term.proofs.Facts.{values_are_kept_holds as the_law}
use Rattle.qtt_term.proofs.laws.values_are_kept.Goals as goal

pub returns : goal.returns
returns c = the_law
