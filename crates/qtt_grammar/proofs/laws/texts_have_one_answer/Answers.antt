use Rattle.qtt_grammar.proofs.Texts.{has_answer}
use Rattle.qtt_grammar.proofs.laws.texts_have_one_answer.Goals as goal

pub returns : goal.returns
returns c = has_answer
