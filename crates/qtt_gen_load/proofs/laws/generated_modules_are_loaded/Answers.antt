use Rattle.qtt_gen_load.proofs.Loads.{are_loaded}
use Rattle.qtt_gen_load.proofs.laws.generated_modules_are_loaded.Goals as goal

pub returns : goal.returns
returns c = are_loaded c.generated_texts_are_read.ensures
