use Rattle.qtt_outcome.proofs.Headline.{refused_for_reason_holds}
use Rattle.qtt_outcome.proofs.laws.refused_for_reason.Goals as goal

pub returns : goal.returns
returns c = refused_for_reason_holds c.build_laws.ensures
