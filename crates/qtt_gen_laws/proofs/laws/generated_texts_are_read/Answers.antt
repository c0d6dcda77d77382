use Rattle.qtt_gen.proofs.Canonical.{canonical}
use Rattle.qtt_gen_laws.proofs.Modules.{generated_read}
use Rattle.qtt_gen_laws.proofs.laws.generated_texts_are_read.Goals as goal

pub returns : goal.returns
returns c = generated_read canonical
