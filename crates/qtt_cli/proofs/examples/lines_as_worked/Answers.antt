use Rattle.qtt_cli.proofs.Rows.{line-rows}
use Rattle.qtt_cli.proofs.examples.lines_as_worked.Goals as goal

pub returns : goal.returns
returns c = line-rows
