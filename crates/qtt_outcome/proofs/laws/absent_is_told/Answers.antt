use Rattle.qtt_outcome.proofs.Headline.{absent_is_told_holds}
use Rattle.qtt_outcome.proofs.laws.absent_is_told.Goals as goal

pub returns : goal.returns
returns c = absent_is_told_holds c.build_laws.ensures
