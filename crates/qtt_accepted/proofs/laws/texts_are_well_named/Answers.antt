use Rattle.qtt_accepted.proofs.Texts.{texts_are_well_named_holds}
use Rattle.qtt_accepted.proofs.laws.texts_are_well_named.Goals as goal

pub returns : goal.returns
returns c = texts_are_well_named_holds
