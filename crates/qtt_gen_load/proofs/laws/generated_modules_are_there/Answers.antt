use Rattle.qtt_gen_load.proofs.Loads.{are_there}
use Rattle.qtt_gen_load.proofs.laws.generated_modules_are_there.Goals as goal

pub returns : goal.returns
returns c = are_there c.generated_texts_are_read.ensures
