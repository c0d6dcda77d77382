use Rattle.qtt_confluence.proofs.Definitions.{lists-read_definitions}
use Rattle.qtt_confluence.proofs.lists.lists_read_definitions.Goals as goal

pub returns : goal.returns
returns g c = λ E D e. lists-read_definitions _ _ _ E D e
