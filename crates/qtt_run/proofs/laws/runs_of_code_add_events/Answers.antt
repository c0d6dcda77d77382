use Rattle.qtt_run.proofs.Events.{runs-add-events as the_law}
use Rattle.qtt_run.proofs.laws.runs_of_code_add_events.Goals as goal

pub returns : goal.returns
returns c = the_law
