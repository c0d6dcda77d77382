use Rattle.qtt_names_laws.proofs.Heads.{pattern_names_are_items}
use Rattle.qtt_names_laws.proofs.laws.pattern_names_are_items.Goals as goal

pub returns : goal.returns
returns c = pattern_names_are_items
