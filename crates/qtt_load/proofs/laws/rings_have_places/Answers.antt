use Rattle.qtt_load.proofs.Places.{rings-have-places}
use Rattle.qtt_load.proofs.laws.rings_have_places.Goals as goal

pub returns : goal.returns
returns c = rings-have-places
