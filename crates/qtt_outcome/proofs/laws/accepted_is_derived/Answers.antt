use Rattle.qtt_outcome.proofs.Headline.{accepted_is_derived_holds}
use Rattle.qtt_outcome.proofs.laws.accepted_is_derived.Goals as goal

pub returns : goal.returns
returns c = accepted_is_derived_holds c.build_laws.ensures
