use Rattle.qtt_build.proofs.Judged.{builds_are_judged_holds}
use Rattle.qtt_build.proofs.laws.builds_are_judged.Goals as goal

pub returns : goal.returns
returns c = builds_are_judged_holds
