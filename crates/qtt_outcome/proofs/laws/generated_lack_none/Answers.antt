use Rattle.qtt_outcome.proofs.Generated.{generated_lack_none_holds}
use Rattle.qtt_outcome.proofs.laws.generated_lack_none.Goals as goal

pub returns : goal.returns
returns c = generated_lack_none_holds c.build_laws.ensures c.generated_modules_are_there.ensures
