use Rattle.qtt_run.proofs.Answering.{typed-code-answers as the_law}
use Rattle.qtt_run.proofs.laws.typed_code_answers.Goals as goal

pub returns : goal.returns
returns c = the_law
