use Rattle.qtt_unify.proofs.Verdicts.{one_verdict as law}
use Rattle.qtt_unify.proofs.laws.one_verdict.Goals as goal

pub returns : goal.returns
returns c = law
