use Rattle.qtt_lower.proofs.InStep.{in_step as the_law}
use Rattle.qtt_lower.proofs.laws.code_runs_in_step.Goals as goal

pub returns : goal.returns
returns c = the_law
