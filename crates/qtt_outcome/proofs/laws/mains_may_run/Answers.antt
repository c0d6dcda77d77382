use Rattle.qtt_outcome.proofs.Headline.{mains_may_run_holds}
use Rattle.qtt_outcome.proofs.laws.mains_may_run.Goals as goal

pub returns : goal.returns
returns c = mains_may_run_holds c.build_laws.ensures
