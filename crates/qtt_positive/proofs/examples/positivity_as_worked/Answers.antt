use Rattle.qtt_positive.proofs.Rows.{rows_hold}
use Rattle.qtt_positive.proofs.examples.positivity_as_worked.Goals as goal

pub returns : goal.returns
returns c = rows_hold
