use Rattle.qtt_core_check.proofs.Unread.{unread}
use Rattle.qtt_core_check.proofs.laws.infer_asks_for_no_reading.Goals as goal

pub returns : goal.returns
returns c = λ E p Γ t. unread E t p Γ
