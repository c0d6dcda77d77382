use Rattle.qtt_bidi.proofs.Meant.{given-type}
use Rattle.qtt_bidi.proofs.laws.checked_has_the_given_type.Goals as goal

pub returns : goal.returns
returns c = λ G p S A e j d. given-type d
