use Rattle.qtt_module.proofs.FamilyRows.{family_rows_hold as computed}
use Rattle.qtt_module.proofs.examples.families_as_worked.Goals as goal

pub returns : goal.returns
returns c = computed
