use Rattle.qtt_match.proofs.Least.{first_match_is_least}
use Rattle.qtt_match.proofs.laws.first_match_is_least.Goals as goal

pub returns : goal.returns
returns c = first_match_is_least
