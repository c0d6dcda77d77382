use Rattle.qtt_conclusions.proofs.NormalForms.{normal-forms_are_so}
use Rattle.qtt_conclusions.proofs.laws.normal_forms_are_so.Goals as goal

pub returns : goal.returns
returns c = λ E. normal-forms_are_so E
