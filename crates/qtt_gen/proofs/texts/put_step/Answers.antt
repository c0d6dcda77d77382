use Rattle.std.proofs.Common.{append_assoc}
use Rattle.qtt_gen.proofs.texts.put_step.Goals as goal

pub returns : goal.returns
returns c = simp (c.in_ok-put.ensures, c.constant.ensures, append_assoc) at c.put_number.ensures
