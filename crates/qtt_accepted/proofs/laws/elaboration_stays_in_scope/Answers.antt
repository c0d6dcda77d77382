use Rattle.qtt_accepted.proofs.Staying.{elaboration_stays_in_scope_holds}
use Rattle.qtt_accepted.proofs.laws.elaboration_stays_in_scope.Goals as goal

pub returns : goal.returns
returns c = elaboration_stays_in_scope_holds
