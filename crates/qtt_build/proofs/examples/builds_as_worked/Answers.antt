use Rattle.qtt_build.proofs.Rows.{build-rows}
use Rattle.qtt_build.proofs.examples.builds_as_worked.Goals as goal

pub returns : goal.returns
returns c = build-rows
