use Rattle.qtt_clause_laws.proofs.Worked.{append_worked}
use Rattle.qtt_clause_laws.proofs.laws.append_as_worked.Goals as goal

pub returns : goal.returns
returns c = append_worked
