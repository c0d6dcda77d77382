use Rattle.qtt_split.proofs.Splits.{splits_are_enough as law}
use Rattle.qtt_split.proofs.laws.splits_are_enough.Goals as goal

pub returns : goal.returns
returns c = law
