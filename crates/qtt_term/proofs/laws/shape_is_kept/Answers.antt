use Rattle.qtt_term.proofs.InShape.{shape-laws as the_law}
use Rattle.qtt_term.proofs.laws.shape_is_kept.Goals as goal

pub returns : goal.returns
returns c = the_law
