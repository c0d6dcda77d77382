use Rattle.qtt_preserve.proofs.Worked.{handles_is_program, trapping_is_program}
use Rattle.qtt_preserve.proofs.laws.examples_are_programs.Goals as goal

pub returns-clause-handles : goal.returns-clause-handles
returns-clause-handles c = handles_is_program

pub returns-clause-trapping : goal.returns-clause-trapping
returns-clause-trapping c = trapping_is_program
