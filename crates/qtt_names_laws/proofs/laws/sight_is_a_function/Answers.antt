use Rattle.qtt_names_laws.proofs.Sights.{sight_is_a_function}
use Rattle.qtt_names_laws.proofs.laws.sight_is_a_function.Goals as goal

pub returns : goal.returns
returns c = sight_is_a_function
