use Rattle.qtt_clause_laws.proofs.Shown.{values-stay}
use Rattle.qtt_clause_laws.proofs.laws.unsolved_values_stay.Goals as goal

pub returns : goal.returns
returns c = λ π ss vs ws h. values-stay h
