use Rattle.qtt_split.proofs.Rows.{body_rows_hold, body_run_rows_hold}
use Rattle.qtt_split.proofs.examples.bodies_as_worked.Goals as goal

pub returns : goal.returns
returns c = record { bodies = body_rows_hold; runs = body_run_rows_hold }
