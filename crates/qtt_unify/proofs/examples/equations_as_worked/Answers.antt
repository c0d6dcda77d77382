use Rattle.qtt_unify.proofs.Rows.{equation_rows_hold as computed}
use Rattle.qtt_unify.proofs.examples.equations_as_worked.Goals as goal

pub returns : goal.returns
returns c = computed
