use Rattle.qtt_run.proofs.EndToEnd.{code-runs-as-full-runs as the_law}
use Rattle.qtt_run.proofs.laws.code_runs_as_full_runs.Goals as goal

pub returns : goal.returns
returns c = the_law
