use Rattle.qtt_outcome.proofs.Headline.{jobs_change_nothing_holds}
use Rattle.qtt_outcome.proofs.laws.jobs_change_nothing.Goals as goal

pub returns : goal.returns
returns c = jobs_change_nothing_holds
