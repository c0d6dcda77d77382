use Rattle.qtt_accepted.proofs.Joined.{clauses_are_followed_holds}
use Rattle.qtt_accepted.proofs.laws.clauses_are_followed.Goals as goal

pub returns : goal.returns
returns c = clauses_are_followed_holds
