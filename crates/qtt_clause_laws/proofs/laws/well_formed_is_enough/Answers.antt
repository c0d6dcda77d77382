use Rattle.qtt_preserve.proofs.Facts.{bodies_closed_holds}
use Rattle.qtt_core_check.proofs.Sound.{results-counted}
use Rattle.qtt_clause_laws.proofs.laws.well_formed_is_enough.Goals as goal

pub returns : goal.returns
returns c = λ E w. record { prims = w.prims; bodies = bodies_closed_holds E w; results = results-counted E w }
