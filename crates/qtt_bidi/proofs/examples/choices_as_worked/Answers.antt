use Rattle.qtt_bidi.proofs.Rows.{choice_rows_hold as computed}
use Rattle.qtt_bidi.proofs.examples.choices_as_worked.Goals as goal

pub returns : goal.returns
returns c = computed
