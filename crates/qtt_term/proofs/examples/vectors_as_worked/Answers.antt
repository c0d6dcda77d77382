use Rattle.qtt_term.proofs.VectorRows.{vector_rows_hold as computed}
use Rattle.qtt_term.proofs.examples.vectors_as_worked.Goals as goal

pub returns : goal.returns
returns c = computed
