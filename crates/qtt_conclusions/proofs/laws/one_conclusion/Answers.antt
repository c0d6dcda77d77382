use Rattle.qtt_conclusions.proofs.Alike.{one-conclusion}
use Rattle.qtt_conclusions.proofs.laws.one_conclusion.Goals as goal

pub returns : goal.returns
returns g c = λ E fixed terms m n e r a x y. one-conclusion a x y
