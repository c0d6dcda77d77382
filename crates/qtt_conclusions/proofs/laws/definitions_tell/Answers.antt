use Rattle.qtt_conclusions.proofs.Examples.{definitions-tell}
use Rattle.qtt_conclusions.proofs.laws.definitions_tell.Goals as goal

pub returns : goal.returns
returns c = definitions-tell
