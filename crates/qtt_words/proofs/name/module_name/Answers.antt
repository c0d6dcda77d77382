use Rattle.std.proofs.Common.{rules}
use Rattle.qtt_words.specs.Asked.{module_name}
use Rattle.qtt_words.proofs.name.module_name.Goals as goal

pub returns-in-Ok : goal.returns-in-Ok
unfolding module_name
returns-in-Ok c = search rules

pub returns-in-Err-Fault : goal.returns-in-Err-Fault
unfolding module_name
returns-in-Err-Fault c = search rules
