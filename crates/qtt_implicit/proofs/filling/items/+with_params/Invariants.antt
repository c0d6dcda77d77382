-- The row grows shorter.
use Rattle.qtt_implicit.specs.declared.filling.signatures.ParamRow.{size-ParamRow}
use Rattle.qtt_implicit.proofs.filling.items.+with_params.Given as goal

abbrev pub decreases-with_params : goal.decreases-with_params
decreases-with_params l = size-ParamRow l.source.now
