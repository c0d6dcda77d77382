use Rattle.qtt_closure.proofs.Rows.{conversion_rows_hold as computed}
use Rattle.qtt_closure.proofs.examples.converted_as_worked.Goals as goal

pub returns : goal.returns
returns c = computed
