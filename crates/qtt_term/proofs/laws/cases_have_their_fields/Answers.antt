use Rattle.qtt_term.proofs.InShape.{cases-laws as the_law}
use Rattle.qtt_term.proofs.laws.cases_have_their_fields.Goals as goal

pub returns : goal.returns
returns c = the_law
