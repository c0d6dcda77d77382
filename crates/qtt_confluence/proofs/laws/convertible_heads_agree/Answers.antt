use Rattle.qtt_confluence.proofs.Facts.{convertible_heads_agree as the_law}
use Rattle.qtt_confluence.proofs.laws.convertible_heads_agree.Goals as goal

pub returns : goal.returns
returns c = the_law
