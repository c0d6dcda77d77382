use Rattle.qtt_run.proofs.Unique.{runs-are-one as the_law}
use Rattle.qtt_run.proofs.laws.runs_of_code_are_one.Goals as goal

pub returns : goal.returns
returns c = the_law
