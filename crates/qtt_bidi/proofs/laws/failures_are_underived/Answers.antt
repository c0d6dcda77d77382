use Rattle.qtt_bidi.proofs.Meant.{underived}
use Rattle.qtt_bidi.proofs.laws.failures_are_underived.Goals as goal

pub returns : goal.returns
returns c = λ G bodies p S m e r j x d. underived G p S m e bodies r j x d
