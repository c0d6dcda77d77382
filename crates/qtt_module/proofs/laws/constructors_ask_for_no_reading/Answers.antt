use Rattle.qtt_module.proofs.Unread.{constructors_unread}
use Rattle.qtt_module.proofs.laws.constructors_ask_for_no_reading.Goals as goal

pub returns : goal.returns
returns c = constructors_unread
