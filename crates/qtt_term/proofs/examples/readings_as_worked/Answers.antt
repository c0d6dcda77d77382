use Rattle.qtt_term.proofs.ReadingRows.{reading_rows_hold}
use Rattle.qtt_term.proofs.examples.readings_as_worked.Goals as goal

pub returns : goal.returns
returns c = reading_rows_hold
