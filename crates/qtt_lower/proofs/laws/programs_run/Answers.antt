use Rattle.qtt_lower.proofs.Running.{programs-run as the_law}
use Rattle.qtt_lower.proofs.laws.programs_run.Goals as goal

pub returns : goal.returns
returns c = the_law
