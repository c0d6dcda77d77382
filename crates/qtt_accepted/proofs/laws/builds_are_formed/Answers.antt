use Rattle.qtt_accepted.proofs.Builds.{builds_are_formed_holds}
use Rattle.qtt_accepted.proofs.laws.builds_are_formed.Goals as goal

pub returns : goal.returns
returns c = builds_are_formed_holds
