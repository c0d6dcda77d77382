use Rattle.qtt_term.proofs.PositivityRows.{positivity_rows_hold as computed}
use Rattle.qtt_term.proofs.examples.positivity_as_worked.Goals as goal

pub returns : goal.returns
returns c = computed
