use Rattle.qtt_accepted.proofs.Apart.{prim_is_apart_holds}
use Rattle.qtt_accepted.proofs.laws.prim_is_apart.Goals as goal

pub returns : goal.returns
returns c = prim_is_apart_holds
