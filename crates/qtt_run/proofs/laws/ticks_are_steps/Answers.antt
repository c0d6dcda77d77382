use Rattle.qtt_run.proofs.Ticking.{ticks-are-steps}
use Rattle.qtt_run.proofs.laws.ticks_are_steps.Goals as goal

pub returns : goal.returns
returns c = ticks-are-steps
