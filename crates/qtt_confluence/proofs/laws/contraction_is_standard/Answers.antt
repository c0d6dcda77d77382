use Rattle.qtt_confluence.proofs.Facts.{contraction_is_standard as the_law}
use Rattle.qtt_confluence.proofs.laws.contraction_is_standard.Goals as goal

pub returns : goal.returns
returns c = the_law
