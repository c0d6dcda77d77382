use Rattle.qtt_accepted.proofs.Once.{texts_declare_once_holds}
use Rattle.qtt_accepted.proofs.laws.texts_declare_once.Goals as goal

pub returns : goal.returns
returns c = texts_declare_once_holds
