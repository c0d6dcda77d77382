use Rattle.qtt_reprint.proofs.TextForms.{text_forms}
use Rattle.qtt_reprint.proofs.laws.names_have_forms.Goals as goal

pub returns : goal.returns
returns c = text_forms
