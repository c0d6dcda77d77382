use Rattle.qtt_clause_laws.proofs.Counted.{plans_are_within_limit_holds}
use Rattle.qtt_clause_laws.proofs.laws.plans_are_within_limit.Goals as goal

pub returns : goal.returns
returns c = plans_are_within_limit_holds
