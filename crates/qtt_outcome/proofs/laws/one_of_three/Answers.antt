use Rattle.qtt_outcome.proofs.Headline.{one_of_three_holds}
use Rattle.qtt_outcome.proofs.laws.one_of_three.Goals as goal

pub returns : goal.returns
returns c = one_of_three_holds c.build_laws.ensures
