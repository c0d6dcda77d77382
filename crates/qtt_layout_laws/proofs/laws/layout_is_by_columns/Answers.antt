use Rattle.qtt_layout_laws.proofs.Answering.{is_by_columns}
use Rattle.qtt_layout_laws.proofs.laws.layout_is_by_columns.Goals as goal

pub returns : goal.returns
returns c = is_by_columns
