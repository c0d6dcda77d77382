use Rattle.qtt_core_check.proofs.NeverFails.{failures}
use Rattle.qtt_core_check.proofs.laws.failures_are_so.Goals as goal

pub returns : goal.returns
returns c = failures
