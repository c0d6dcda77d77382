use Rattle.std.proofs.Common.{sym, subst}
use Rattle.qtt_code.specs.Machine.{start}
use Rattle.qtt_machine.specs.Runs.{Answers}
use Rattle.qtt_run.proofs.running.Running.start.Goals as goal

pub start-requires-clause-answers : goal.start-requires-clause-answers
start-requires-clause-answers c = subst (λ P. Answers P (start c.args.block)) (sym c.program.ensures) c.requires.answers
