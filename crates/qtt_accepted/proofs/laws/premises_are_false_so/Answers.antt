use Rattle.qtt_accepted.proofs.Refusals.{premises_are_false_so_holds}
use Rattle.qtt_accepted.proofs.laws.premises_are_false_so.Goals as goal

pub returns : goal.returns
returns c = premises_are_false_so_holds
