use Rattle.qtt_lower.proofs.Rows.{lowering_rows_hold as computed}
use Rattle.qtt_lower.proofs.examples.lowered_as_worked.Goals as goal

pub returns : goal.returns
returns c = computed
