use Rattle.qtt_diag.proofs.KindNumbers.{kinds_agree as kind_by_kind}
use Rattle.qtt_diag.proofs.laws.kinds_agree.Goals as goal

pub returns : goal.returns
returns c = kind_by_kind
