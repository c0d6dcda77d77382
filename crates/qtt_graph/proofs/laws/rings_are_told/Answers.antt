use Rattle.qtt_graph.proofs.Rings.{rings_are_told}
use Rattle.qtt_graph.proofs.laws.rings_are_told.Goals as goal

pub returns : goal.returns
returns c = rings_are_told
