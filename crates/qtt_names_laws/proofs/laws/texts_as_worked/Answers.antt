use Rattle.qtt_names_laws.proofs.Worked.{texts_as_worked}
use Rattle.qtt_names_laws.proofs.laws.texts_as_worked.Goals as goal

pub returns : goal.returns
returns c = texts_as_worked
