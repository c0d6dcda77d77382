use Rattle.qtt_conclusions.proofs.Heads.{heads-are_so}
use Rattle.qtt_conclusions.proofs.laws.heads_are_so.Goals as goal

pub returns : goal.returns
returns c = λ E bodies. heads-are_so E bodies
