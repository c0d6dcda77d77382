use Rattle.qtt_match.proofs.Rows.{rows_hold}
use Rattle.qtt_match.proofs.examples.matches_as_worked.Goals as goal

pub returns : goal.returns
returns c = rows_hold
