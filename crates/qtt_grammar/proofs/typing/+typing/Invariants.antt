use Rattle.qtt_grammar.proofs.typing.+typing.Given as goal

abbrev pub decreases-typing : goal.decreases-typing
decreases-typing l = l.level.left
