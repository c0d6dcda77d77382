use Rattle.qtt_confluence.proofs.Endings.{larger}
use Rattle.qtt_core_check.proofs.laws.larger_budgets_keep_endings.Goals as goal

pub returns : goal.returns
returns c = λ E n k m l s. larger E n k m l s
