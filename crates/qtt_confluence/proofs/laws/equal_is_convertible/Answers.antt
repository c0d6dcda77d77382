use Rattle.qtt_confluence.proofs.Facts.{equal_is_convertible as the_law}
use Rattle.qtt_confluence.proofs.laws.equal_is_convertible.Goals as goal

pub returns : goal.returns
returns c = the_law
