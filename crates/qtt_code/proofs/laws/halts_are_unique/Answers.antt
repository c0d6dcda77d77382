use Rattle.qtt_code.proofs.Halting.{halts-are-unique as the_law}
use Rattle.qtt_code.proofs.laws.halts_are_unique.Goals as goal

pub returns : goal.returns
returns c = the_law
