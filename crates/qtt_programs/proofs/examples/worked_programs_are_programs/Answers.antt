use Rattle.qtt_programs.proofs.Worked.{programs-are-so, runs-are-so}
use Rattle.qtt_programs.proofs.examples.worked_programs_are_programs.Goals as goal

pub returns-clause-programs : goal.returns-clause-programs
returns-clause-programs c = programs-are-so

pub returns-clause-runs : goal.returns-clause-runs
returns-clause-runs c = runs-are-so
