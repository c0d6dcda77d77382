use Rattle.qtt_term.proofs.Facts.{substitution_laws_hold as the_law}
use Rattle.qtt_term.proofs.laws.substitution_laws.Goals as goal

pub returns : goal.returns
returns c = the_law
