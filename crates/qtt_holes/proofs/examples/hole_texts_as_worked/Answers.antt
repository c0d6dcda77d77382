use Rattle.qtt_holes.proofs.Rows.{hole_text_rows_hold as computed}
use Rattle.qtt_holes.proofs.examples.hole_texts_as_worked.Goals as goal

pub returns : goal.returns
returns c = computed
