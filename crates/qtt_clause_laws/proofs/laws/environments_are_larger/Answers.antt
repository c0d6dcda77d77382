use Rattle.qtt_clause_laws.proofs.Growing.{environments_are_larger}
use Rattle.qtt_clause_laws.proofs.laws.environments_are_larger.Goals as goal

pub returns : goal.returns
returns c = environments_are_larger
