use Rattle.qtt_accepted.proofs.Texts.{texts_keep_form_holds}
use Rattle.qtt_accepted.proofs.laws.texts_keep_form.Goals as goal

pub returns : goal.returns
returns c = texts_keep_form_holds
