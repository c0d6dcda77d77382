use Rattle.qtt_build.proofs.Once.{builds_declare_once_holds}
use Rattle.qtt_build.proofs.laws.builds_declare_once.Goals as goal

pub returns : goal.returns
returns c = builds_declare_once_holds c.texts_declare_once.ensures c.texts_keep_form_beside.ensures
