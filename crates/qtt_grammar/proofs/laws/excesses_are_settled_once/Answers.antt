use Rattle.qtt_grammar.proofs.Texts.{settled_once}
use Rattle.qtt_grammar.proofs.laws.excesses_are_settled_once.Goals as goal

pub returns : goal.returns
returns c = settled_once
