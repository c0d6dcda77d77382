use Rattle.qtt_run.proofs.Keeping.{code-keeps-types as the_law}
use Rattle.qtt_run.proofs.laws.code_keeps_types.Goals as goal

pub returns : goal.returns
returns c = the_law
