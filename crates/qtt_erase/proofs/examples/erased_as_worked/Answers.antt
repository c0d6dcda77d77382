use Rattle.qtt_erase.proofs.Rows.{erasure_rows_hold as computed}
use Rattle.qtt_erase.proofs.examples.erased_as_worked.Goals as goal

pub returns : goal.returns
returns c = computed
