use Rattle.qtt_core_check.proofs.Worked as worked
use Rattle.qtt_core_check.proofs.laws.dead_parts_use_nothing.Goals as goal

pub returns : goal.returns
returns c = worked.dead_parts_use_nothing
