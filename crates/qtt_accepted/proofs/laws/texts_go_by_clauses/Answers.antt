use Rattle.qtt_accepted.proofs.Joined.{texts_go_by_clauses_holds}
use Rattle.qtt_accepted.proofs.laws.texts_go_by_clauses.Goals as goal

pub returns : goal.returns
returns c = texts_go_by_clauses_holds
