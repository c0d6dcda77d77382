use Rattle.qtt_names_laws.proofs.Worked.{heads_as_worked}
use Rattle.qtt_names_laws.proofs.laws.heads_as_worked.Goals as goal

pub returns : goal.returns
returns c = heads_as_worked
