use Rattle.qtt_confluence.proofs.Endings.{one-ending}
use Rattle.qtt_confluence.proofs.lists.one_ending.Goals as goal

pub returns : goal.returns
returns g c = λ E bodies m e r x y. one-ending E bodies m e r x y
