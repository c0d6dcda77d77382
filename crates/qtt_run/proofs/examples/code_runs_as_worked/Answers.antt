use Rattle.qtt_run.proofs.Rows.{code-rows-hold as the_rows}
use Rattle.qtt_run.proofs.examples.code_runs_as_worked.Goals as goal

pub returns : goal.returns
returns c = the_rows
