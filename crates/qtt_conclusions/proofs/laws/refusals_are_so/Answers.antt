use Rattle.qtt_conclusions.proofs.Forms.{refusals-are_so}
use Rattle.qtt_conclusions.proofs.laws.refusals_are_so.Goals as goal

pub returns : goal.returns
returns g c = λ E. refusals-are_so E
