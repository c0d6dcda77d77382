use Rattle.qtt_names_laws.proofs.Items.{resolved_by_the_text}
use Rattle.qtt_names_laws.proofs.laws.resolved_by_the_text.Goals as goal

pub returns : goal.returns
returns c = resolved_by_the_text
