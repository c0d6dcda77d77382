use Rattle.qtt_term.proofs.PrimFormed.{prim_formed}
use Rattle.qtt_term.proofs.examples.prim_is_well_formed.Goals as goal

pub returns-clause-formed : goal.returns-clause-formed
returns-clause-formed c = prim_formed
