use Rattle.qtt_conclusions.proofs.Heads.{conclude}
use Rattle.qtt_conclusions.proofs.laws.endings_conclude.Goals as goal

pub returns : goal.returns
returns g c = λ E bodies m e w. conclude bodies w
