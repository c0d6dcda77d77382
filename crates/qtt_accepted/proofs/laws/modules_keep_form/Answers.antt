use Rattle.qtt_accepted.proofs.Completing.{modules_keep_form_holds}
use Rattle.qtt_accepted.proofs.laws.modules_keep_form.Goals as goal

pub returns : goal.returns
returns c = modules_keep_form_holds
