use Rattle.qtt_graph.proofs.Ranked.{ranks_are_above}
use Rattle.qtt_graph.proofs.laws.ranks_are_above.Goals as goal

pub returns : goal.returns
returns c = ranks_are_above
