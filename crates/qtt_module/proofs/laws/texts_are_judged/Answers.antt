use Rattle.qtt_module.proofs.Judged.{texts_are_judged_holds}
use Rattle.qtt_module.proofs.laws.texts_are_judged.Goals as goal

pub returns : goal.returns
returns c = texts_are_judged_holds
