use Rattle.qtt_confluence.proofs.Facts.{types_are_injective as the_law}
use Rattle.qtt_confluence.proofs.laws.types_are_injective.Goals as goal

pub returns : goal.returns
returns c = the_law
