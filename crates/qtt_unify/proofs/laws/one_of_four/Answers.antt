use Rattle.qtt_unify.proofs.Relation.{one_of_four as law}
use Rattle.qtt_unify.proofs.laws.one_of_four.Goals as goal

pub returns : goal.returns
returns c = law
