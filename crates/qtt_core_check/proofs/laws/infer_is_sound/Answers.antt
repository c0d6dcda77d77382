use Rattle.qtt_core_check.proofs.Sound.{sound, results-counted}
use Rattle.qtt_core_check.proofs.laws.infer_is_sound.Goals as goal

pub returns : goal.returns
returns c = record { sound = sound; well_formed = results-counted }
