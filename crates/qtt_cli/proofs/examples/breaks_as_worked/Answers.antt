use Rattle.qtt_cli.proofs.Rows.{break-rows}
use Rattle.qtt_cli.proofs.examples.breaks_as_worked.Goals as goal

pub returns : goal.returns
returns c = break-rows
