use Rattle.qtt_rules.proofs.Causes.{causes-have-their-kinds}
use Rattle.qtt_rules.proofs.laws.causes_have_their_kinds.Goals as goal

pub returns : goal.returns
returns c = causes-have-their-kinds
