use Rattle.qtt_term.proofs.Rows.{judgement_rows_hold as computed}
use Rattle.qtt_term.proofs.examples.judgements_as_worked.Goals as goal

pub returns : goal.returns
returns c = computed
