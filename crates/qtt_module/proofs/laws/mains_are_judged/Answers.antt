use Rattle.qtt_module.proofs.Judged.{mains_are_judged_holds}
use Rattle.qtt_module.proofs.laws.mains_are_judged.Goals as goal

pub returns : goal.returns
returns c = mains_are_judged_holds
