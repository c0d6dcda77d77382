use Rattle.qtt_term.proofs.Rows.{run_rows_hold as computed}
use Rattle.qtt_term.proofs.examples.runs_as_worked.Goals as goal

pub returns : goal.returns
returns c = computed
