use Rattle.qtt_gen.proofs.Counts.{modules_counted}
use Rattle.qtt_gen.proofs.laws.modules_are_counted.Goals as goal

pub returns : goal.returns
returns c = modules_counted
