use Rattle.qtt_conclusions.proofs.Judgement.{judgement-is_one}
use Rattle.qtt_conclusions.proofs.laws.judgement_is_one.Goals as goal

pub returns : goal.returns
returns c = λ E bodies. judgement-is_one E bodies
