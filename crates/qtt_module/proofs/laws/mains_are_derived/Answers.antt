use Rattle.qtt_module.proofs.Mains.{main_so, so_main}
use Rattle.qtt_module.proofs.laws.mains_are_derived.Goals as goal

pub returns : goal.returns
returns c = λ G s o d. (main_so G s o d, so_main G s o d)
