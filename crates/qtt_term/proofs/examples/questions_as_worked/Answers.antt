use Rattle.qtt_term.proofs.Rows.{question_rows_hold as computed}
use Rattle.qtt_term.proofs.examples.questions_as_worked.Goals as goal

pub returns : goal.returns
returns c = computed
