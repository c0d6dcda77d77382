use Rattle.qtt_names_laws.proofs.Worked.{sights_as_worked}
use Rattle.qtt_names_laws.proofs.laws.sights_as_worked.Goals as goal

pub returns : goal.returns
returns c = sights_as_worked
