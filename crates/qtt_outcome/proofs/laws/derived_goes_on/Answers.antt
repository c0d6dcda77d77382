use Rattle.qtt_outcome.proofs.Completeness.{derived_goes_on_holds}
use Rattle.qtt_outcome.proofs.laws.derived_goes_on.Goals as goal

pub returns : goal.returns
returns c = derived_goes_on_holds c.build_laws.ensures
