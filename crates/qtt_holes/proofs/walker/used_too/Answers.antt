use Rattle.qtt_holes.proofs.Fits.{stands-used}
use Rattle.qtt_holes.proofs.walker.used_too.Goals as goal

pub returns-clause-stands : goal.returns-clause-stands
returns-clause-stands c = λ w s. stands-used c.args.uses _ c.args.found w c.add.ensures.uses s
