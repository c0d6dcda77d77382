use Rattle.qtt_grammar.proofs.Outcomes.{one_outcome}
use Rattle.qtt_grammar.proofs.laws.texts_have_one_outcome.Goals as goal

pub returns : goal.returns
returns c = one_outcome
