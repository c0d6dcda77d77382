use Rattle.qtt_erase.proofs.InStep.{in_step as the_law}
use Rattle.qtt_erase.proofs.laws.erased_terms_run_in_step.Goals as goal

pub returns : goal.returns
returns c = the_law
