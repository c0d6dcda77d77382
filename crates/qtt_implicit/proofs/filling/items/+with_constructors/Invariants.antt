-- The row grows shorter.
use Rattle.qtt_implicit.specs.declared.filling.signatures.ConRow.{size-ConRow}
use Rattle.qtt_implicit.proofs.filling.items.+with_constructors.Given as goal

abbrev pub decreases-with_constructors : goal.decreases-with_constructors
decreases-with_constructors l = size-ConRow l.source.now
