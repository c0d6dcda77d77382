use Rattle.qtt_core_check.proofs.Worked as worked
use Rattle.qtt_core_check.proofs.laws.sorts_are_bounded.Goals as goal

pub returns : goal.returns
returns c = λ E p Γ. worked.sorts_are_bounded E p Γ
