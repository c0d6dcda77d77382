use Rattle.qtt_core_check.proofs.AcceptedInferred.{accepted-inferred}
use Rattle.qtt_core_check.proofs.laws.accepted_is_inferred.Goals as goal

pub returns : goal.returns
returns c = accepted-inferred
