use Rattle.qtt_grammar.proofs.Texts.{one_tree}
use Rattle.qtt_grammar.proofs.laws.trees_are_unique.Goals as goal

pub returns : goal.returns
returns c = one_tree
