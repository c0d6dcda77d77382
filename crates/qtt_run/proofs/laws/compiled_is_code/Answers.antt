use Rattle.qtt_run.proofs.Based.{compiled-main}
use Rattle.qtt_run.proofs.Compiled.{compiled-is-code}
use Rattle.qtt_run.proofs.laws.compiled_is_code.Goals as goal

pub returns : goal.returns
returns c = record { code = compiled-is-code; main = compiled-main }
