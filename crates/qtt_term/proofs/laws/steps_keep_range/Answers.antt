use Rattle.qtt_term.proofs.Range.{steps_keep_range_holds as the_law}
use Rattle.qtt_term.proofs.laws.steps_keep_range.Goals as goal

pub returns : goal.returns
returns c = the_law
