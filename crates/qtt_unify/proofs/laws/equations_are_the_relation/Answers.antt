use Rattle.qtt_unify.proofs.Relation.{equations_are_the_relation as law}
use Rattle.qtt_unify.proofs.laws.equations_are_the_relation.Goals as goal

pub returns : goal.returns
returns g c = law _ _
