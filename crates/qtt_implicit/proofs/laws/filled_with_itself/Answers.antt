use Rattle.qtt_implicit.proofs.PlainItems.{filled_with_itself}
use Rattle.qtt_implicit.proofs.laws.filled_with_itself.Goals as goal

pub returns : goal.returns
returns c = filled_with_itself
