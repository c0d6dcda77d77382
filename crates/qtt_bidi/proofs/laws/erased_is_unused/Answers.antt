use Rattle.qtt_bidi.proofs.Sparing.{erased-is-unused}
use Rattle.qtt_bidi.proofs.laws.erased_is_unused.Goals as goal

pub returns : goal.returns
returns c = erased-is-unused
