use Rattle.qtt_confluence.proofs.Endings.{says, is-spent}
use Rattle.qtt_core_check.proofs.laws.endings_are_so.Goals as goal

pub returns : goal.returns
returns c = λ E. record { says = says E; spent = λ n m p q h. is-spent E n h }
