use Rattle.qtt_clause_laws.proofs.Named.{named_stay_holds}
use Rattle.qtt_clause_laws.proofs.laws.named_stay.Goals as goal

pub returns : goal.returns
returns c = named_stay_holds
