use Rattle.qtt_implicit.proofs.BackItems.{filled_is_forgotten}
use Rattle.qtt_implicit.proofs.laws.filled_is_forgotten.Goals as goal

pub returns : goal.returns
returns c = filled_is_forgotten
