use Rattle.qtt_accepted.proofs.Joined.{by_clauses_stay_holds}
use Rattle.qtt_accepted.proofs.laws.by_clauses_stay.Goals as goal

pub returns : goal.returns
returns c = by_clauses_stay_holds
