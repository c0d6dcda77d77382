use Rattle.qtt_lower.proofs.Whole.{programs-are-lowered as the_law}
use Rattle.qtt_lower.proofs.laws.programs_are_lowered.Goals as goal

pub returns : goal.returns
returns c = the_law
