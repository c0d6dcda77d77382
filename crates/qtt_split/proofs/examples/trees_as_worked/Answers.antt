use Rattle.qtt_split.proofs.Rows.{tree_rows_hold, made_rows_hold}
use Rattle.qtt_split.proofs.examples.trees_as_worked.Goals as goal

pub returns : goal.returns
returns c = record { trees = tree_rows_hold; made = made_rows_hold }
