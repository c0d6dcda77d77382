use Rattle.qtt_grammar.proofs.Texts.{first_bad_once}
use Rattle.qtt_grammar.proofs.laws.first_bad_tokens_are_unique.Goals as goal

pub returns : goal.returns
returns c = first_bad_once
