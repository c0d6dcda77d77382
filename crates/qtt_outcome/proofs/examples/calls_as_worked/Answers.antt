use Rattle.qtt_outcome.proofs.Rows.{call-rows}
use Rattle.qtt_outcome.proofs.examples.calls_as_worked.Goals as goal

pub returns : goal.returns
returns c = call-rows
