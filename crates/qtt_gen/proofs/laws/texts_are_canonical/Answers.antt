use Rattle.qtt_gen.proofs.Canonical.{canonical}
use Rattle.qtt_gen.proofs.laws.texts_are_canonical.Goals as goal

pub returns : goal.returns
returns c = canonical
