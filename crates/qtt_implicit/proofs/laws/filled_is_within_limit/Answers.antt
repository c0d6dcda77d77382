use Rattle.qtt_implicit.proofs.SpendingItems.{filled_is_within_limit}
use Rattle.qtt_implicit.proofs.laws.filled_is_within_limit.Goals as goal

pub returns : goal.returns
returns c = filled_is_within_limit
