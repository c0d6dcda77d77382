use Rattle.qtt_confluence.proofs.Facts.{compares_by_recursion as the_law}
use Rattle.qtt_confluence.proofs.laws.compares_by_recursion.Goals as goal

pub returns : goal.returns
returns c = the_law
