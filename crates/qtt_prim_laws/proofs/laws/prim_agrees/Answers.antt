use Rattle.std.proofs.Common.{refl}
use Rattle.qtt_prim_laws.proofs.laws.prim_agrees.Goals as goal

pub returns : goal.returns
returns c = record { counts = refl; items = refl; families = refl }
