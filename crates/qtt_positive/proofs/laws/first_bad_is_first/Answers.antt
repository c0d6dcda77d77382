use Rattle.qtt_positive.proofs.Decided.{first_bad_is_first}
use Rattle.qtt_positive.proofs.laws.first_bad_is_first.Goals as goal

pub returns : goal.returns
returns c = first_bad_is_first
