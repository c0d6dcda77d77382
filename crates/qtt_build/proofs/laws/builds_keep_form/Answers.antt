use Rattle.qtt_build.proofs.Formed.{builds_keep_form_holds}
use Rattle.qtt_build.proofs.laws.builds_keep_form.Goals as goal

pub returns : goal.returns
returns c = builds_keep_form_holds c.texts_keep_form_beside.ensures
