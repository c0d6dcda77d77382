use Rattle.qtt_lower.proofs.InStep.{begins as the_law}
use Rattle.qtt_lower.proofs.laws.runs_begin.Goals as goal

pub returns : goal.returns
returns c = the_law
