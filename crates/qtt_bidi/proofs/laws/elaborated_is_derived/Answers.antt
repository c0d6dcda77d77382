use Rattle.qtt_bidi.proofs.Derived.{derived}
use Rattle.qtt_bidi.proofs.Reached.{ends}
use Rattle.qtt_bidi.proofs.laws.elaborated_is_derived.Goals as goal

pub returns : goal.returns
returns c = λ G p S m e j. (λ x. derived e G p S m j x, λ d. ends d)
