use Rattle.qtt_term.proofs.PrimGlobals.{entries-are_the_environment as the_law}
use Rattle.qtt_term.proofs.laws.entries_are_the_environment.Goals as goal

pub returns : goal.returns
returns c = the_law
