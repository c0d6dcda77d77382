use Rattle.qtt_graph.proofs.Rows.{rows_hold}
use Rattle.qtt_graph.proofs.examples.graphs_as_worked.Goals as goal

pub returns : goal.returns
returns c = rows_hold
