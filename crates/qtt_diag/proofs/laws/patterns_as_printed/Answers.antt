use Rattle.qtt_diag.proofs.PrintedPatterns.{as_printed}
use Rattle.qtt_diag.proofs.laws.patterns_as_printed.Goals as goal

pub returns : goal.returns
returns c = as_printed
