-- One variable less is left.
use Rattle.qtt_implicit.proofs.filling.shapes.+with_variables.Given as goal

abbrev pub decreases-with_variables : goal.decreases-with_variables
decreases-with_variables l = l.count
