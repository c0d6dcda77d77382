use Rattle.qtt_load.proofs.Rows.{refusal_rows_hold as computed}
use Rattle.qtt_load.proofs.examples.refusals_as_worked.Goals as goal

pub returns : goal.returns
returns c = computed
