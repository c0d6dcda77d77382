use Rattle.qtt_diag.proofs.Faults.{faults_keep_their_kinds as kind_by_kind}
use Rattle.qtt_diag.proofs.laws.faults_keep_their_kinds.Goals as goal

pub returns : goal.returns
returns c = kind_by_kind
