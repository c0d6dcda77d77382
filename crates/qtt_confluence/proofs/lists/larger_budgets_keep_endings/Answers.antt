use Rattle.qtt_confluence.proofs.Endings.{larger}
use Rattle.qtt_confluence.proofs.lists.larger_budgets_keep_endings.Goals as goal

pub returns : goal.returns
returns g c = λ E n k m l s. larger E n k m l s
