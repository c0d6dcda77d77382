use Rattle.qtt_diag.proofs.Faults.{fault_rows_hold}
use Rattle.qtt_diag.proofs.examples.faults_as_worked.Goals as goal

pub returns : goal.returns
returns c = fault_rows_hold
