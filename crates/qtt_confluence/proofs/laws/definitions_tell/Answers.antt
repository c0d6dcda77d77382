use Rattle.qtt_confluence.proofs.Facts.{definitions_tell as the_law}
use Rattle.qtt_confluence.proofs.laws.definitions_tell.Goals as goal

pub returns : goal.returns
returns c = the_law
