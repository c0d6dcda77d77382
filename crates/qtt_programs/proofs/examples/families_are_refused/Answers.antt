use Rattle.qtt_programs.proofs.Refused.{families-refused}
use Rattle.qtt_programs.proofs.examples.families_are_refused.Goals as goal

pub returns : goal.returns
returns c = families-refused
