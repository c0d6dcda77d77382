use Rattle.qtt_module.proofs.Grouped.{group_so, so_group}
use Rattle.qtt_module.proofs.laws.groups_are_derived.Goals as goal

pub returns : goal.returns
returns c = λ D g. (group_so D g, so_group D g)
