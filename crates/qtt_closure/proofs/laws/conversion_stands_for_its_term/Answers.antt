use Rattle.qtt_closure.proofs.Starting.{stands-for-its-term as the_law}
use Rattle.qtt_closure.proofs.laws.conversion_stands_for_its_term.Goals as goal

pub returns : goal.returns
returns c = the_law
