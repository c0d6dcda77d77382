use Rattle.qtt_bidi.proofs.Holeless.{derived-has-no-hole}
use Rattle.qtt_bidi.proofs.laws.derived_has_no_hole.Goals as goal

pub returns : goal.returns
returns c = derived-has-no-hole
