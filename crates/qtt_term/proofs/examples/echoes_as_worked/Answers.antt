use Rattle.qtt_term.proofs.EchoRows.{echo_rows_hold as computed}
use Rattle.qtt_term.proofs.examples.echoes_as_worked.Goals as goal

pub returns : goal.returns
returns c = computed
