use Rattle.qtt_confluence.proofs.Facts.{count_alone_limits as the_law}
use Rattle.qtt_confluence.proofs.laws.count_alone_limits.Goals as goal

pub returns : goal.returns
returns c = the_law
