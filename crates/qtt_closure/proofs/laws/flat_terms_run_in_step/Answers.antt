use Rattle.qtt_closure.proofs.Running.{in_step as the_law}
use Rattle.qtt_closure.proofs.laws.flat_terms_run_in_step.Goals as goal

pub returns : goal.returns
returns c = the_law
