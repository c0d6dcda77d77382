use Rattle.qtt_module.proofs.FamilyRows.{main_rows_hold as computed}
use Rattle.qtt_module.proofs.examples.mains_as_worked.Goals as goal

pub returns : goal.returns
returns c = computed
