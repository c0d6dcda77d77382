use Rattle.qtt_term.proofs.Facts.{tapes_are_of_events_holds as the_law}
use Rattle.qtt_term.proofs.laws.tapes_are_of_events.Goals as goal

pub returns : goal.returns
returns c = the_law
