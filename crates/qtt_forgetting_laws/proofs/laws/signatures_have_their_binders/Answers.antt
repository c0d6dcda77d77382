use Rattle.qtt_forgetting_laws.proofs.Judged.{judged_have}
use Rattle.qtt_forgetting_laws.proofs.Signatures.{filled_have, prim_have}
use Rattle.qtt_forgetting_laws.proofs.laws.signatures_have_their_binders.Goals as goal

pub returns : goal.returns
returns c = record { of_filled = filled_have; of_judged = judged_have; of_prim = prim_have }
