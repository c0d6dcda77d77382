use Rattle.qtt_clause_laws.proofs.Worked.{solved_worked}
use Rattle.qtt_clause_laws.proofs.laws.solved_place_as_worked.Goals as goal

pub returns : goal.returns
returns c = solved_worked
