use Rattle.qtt_clause_laws.proofs.Named.{reached_are_named_holds}
use Rattle.qtt_clause_laws.proofs.laws.reached_are_named.Goals as goal

pub returns : goal.returns
returns c = reached_are_named_holds
