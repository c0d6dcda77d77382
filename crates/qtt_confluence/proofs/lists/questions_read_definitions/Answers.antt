use Rattle.qtt_confluence.proofs.Definitions.{questions-read_definitions}
use Rattle.qtt_confluence.proofs.lists.questions_read_definitions.Goals as goal

pub returns : goal.returns
returns c = λ E D e. questions-read_definitions E D e
