use Rattle.qtt_accepted.proofs.Groups.{groups_make_no_tape_holds}
use Rattle.qtt_accepted.proofs.laws.groups_make_no_tape.Goals as goal

pub returns : goal.returns
returns c = groups_make_no_tape_holds
