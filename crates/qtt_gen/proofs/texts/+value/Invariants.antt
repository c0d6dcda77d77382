use Rattle.qtt_gen.proofs.texts.+value.Given as goal

abbrev pub decreases-value : goal.decreases-value
decreases-value l = l.i
