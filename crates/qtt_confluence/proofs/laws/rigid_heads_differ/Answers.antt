use Rattle.qtt_confluence.proofs.Facts.{rigid_heads_differ as the_law}
use Rattle.qtt_confluence.proofs.laws.rigid_heads_differ.Goals as goal

pub returns : goal.returns
returns c = the_law
