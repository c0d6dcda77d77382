use Rattle.qtt_code.proofs.Rows.{machine_rows_hold as computed}
use Rattle.qtt_code.proofs.examples.runs_as_worked.Goals as goal

pub returns : goal.returns
returns c = computed
