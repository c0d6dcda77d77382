use Rattle.qtt_names_laws.proofs.Sights.{names_see_by_the_text}
use Rattle.qtt_names_laws.proofs.laws.names_see_by_the_text.Goals as goal

pub returns : goal.returns
returns c = names_see_by_the_text
