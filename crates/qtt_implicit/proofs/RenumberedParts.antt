-- Renumbering: the parts of a tree in turn.
use Rattle.std.proofs.lemmas.Grind.{common_steps}
use Rattle.qtt_implicit.specs.declared.filling.trees.Node.{the_lemmas}
use Rattle.qtt_implicit.proofs.RenumberedTrees.{renumbered_name}

pub ruleset parts = (the_lemmas, common_steps, renumbered_name)
