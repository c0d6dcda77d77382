use Rattle.qtt_run.proofs.EndToEnd.{code-closes-tapes as the_law}
use Rattle.qtt_run.proofs.laws.code_closes_tapes_once.Goals as goal

pub returns : goal.returns
returns c = the_law
