use Rattle.qtt_confluence.proofs.Endings.{one-ending}
use Rattle.qtt_core_check.proofs.laws.one_ending.Goals as goal

pub returns : goal.returns
returns c = λ E bodies m e r x y. one-ending E bodies m e r x y
