use Rattle.qtt_conclusions.proofs.Alike.{forms-are_alike}
use Rattle.qtt_conclusions.proofs.laws.forms_are_alike.Goals as goal

pub returns : goal.returns
returns g c = λ E. forms-are_alike E
