use Rattle.qtt_worked.proofs.Mismatch.{mismatch-as-worked}
use Rattle.qtt_worked.proofs.mismatch_as_worked.Goals as goal

pub returns : goal.returns
returns c = mismatch-as-worked c.build_laws.ensures c.refused_for_reason.ensures
