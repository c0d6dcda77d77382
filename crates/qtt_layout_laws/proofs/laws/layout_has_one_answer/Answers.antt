use Rattle.qtt_layout_laws.proofs.Answering.{has_one_answer}
use Rattle.qtt_layout_laws.proofs.laws.layout_has_one_answer.Goals as goal

pub returns : goal.returns
returns c = has_one_answer
