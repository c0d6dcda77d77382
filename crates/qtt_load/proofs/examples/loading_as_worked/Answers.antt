use Rattle.qtt_load.proofs.Rows.{loading_rows_hold as computed}
use Rattle.qtt_load.proofs.examples.loading_as_worked.Goals as goal

pub returns : goal.returns
returns c = computed
