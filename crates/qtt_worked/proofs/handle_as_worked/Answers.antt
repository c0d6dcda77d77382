use Rattle.qtt_worked.proofs.Handle.{handle-as-worked}
use Rattle.qtt_worked.proofs.handle_as_worked.Goals as goal

pub returns : goal.returns
returns c = handle-as-worked c.build_laws.ensures c.accepted_is_derived.ensures
