use Rattle.qtt_conclusions.proofs.Forms.{no-other_form}
use Rattle.qtt_conclusions.proofs.laws.no_other_form.Goals as goal

pub returns : goal.returns
returns c = λ E t h x. no-other_form E t h x
