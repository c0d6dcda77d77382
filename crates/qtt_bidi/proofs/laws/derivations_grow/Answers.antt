use Rattle.qtt_bidi.proofs.Growing.{derivations_grow_holds}
use Rattle.qtt_bidi.proofs.laws.derivations_grow.Goals as goal

pub returns : goal.returns
returns c = derivations_grow_holds
