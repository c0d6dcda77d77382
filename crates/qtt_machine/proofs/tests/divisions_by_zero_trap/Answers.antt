use Rattle.std.proofs.Common.{sym, subst}
use Rattle.qtt_term.specs.FullStep.{Cause}
use Rattle.qtt_code.specs.Machine.{start}
use Rattle.qtt_code.specs.Rows.{dividing}
use Rattle.qtt_code.proofs.Rows.{machine_rows_hold}
use Rattle.qtt_machine.specs.Runs.{Answers}
use Rattle.qtt_machine.proofs.Halted.{trapped_answers}
use Rattle.qtt_machine.proofs.tests.divisions_by_zero_trap.Goals as goal

pub start-requires-clause-answers : goal.start-requires-clause-answers
start-requires-clause-answers g c =
    subst (λ P. Answers P (start 0)) (sym c.in_ok-program.ensures)
    (trapped_answers dividing 1 (start 0) Cause.division_by_zero machine_rows_hold.division_traps)
