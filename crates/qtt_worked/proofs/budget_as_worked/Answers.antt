use Rattle.qtt_worked.proofs.Budget.{budget-as-worked}
use Rattle.qtt_worked.proofs.budget_as_worked.Goals as goal

pub returns : goal.returns
returns c = budget-as-worked c.accepted_is_derived.ensures
