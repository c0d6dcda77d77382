use Rattle.qtt_confluence.proofs.Facts.{contraction_is_confluent as the_law}
use Rattle.qtt_confluence.proofs.laws.contraction_is_confluent.Goals as goal

pub returns : goal.returns
returns c = the_law
