use Rattle.qtt_confluence.proofs.Endings.{says, is-spent}
use Rattle.qtt_confluence.proofs.lists.endings_are_so.Goals as goal

pub returns : goal.returns
returns g c = record { says = λ E n m. says E n m; spent = λ E n m p q h. is-spent E n h }
