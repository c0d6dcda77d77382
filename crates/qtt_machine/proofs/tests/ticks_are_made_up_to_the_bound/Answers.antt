use Rattle.std.proofs.Common.{sym, subst}
use Rattle.qtt_code.specs.Machine.{start}
use Rattle.qtt_code.specs.Rows.{branching, number}
use Rattle.qtt_code.proofs.Rows.{machine_rows_hold}
use Rattle.qtt_machine.specs.Runs.{Answers}
use Rattle.qtt_machine.proofs.Halted.{ended_answers}
use Rattle.qtt_machine.proofs.tests.ticks_are_made_up_to_the_bound.Goals as goal

pub start-requires-clause-answers : goal.start-requires-clause-answers
start-requires-clause-answers g c =
    subst (λ P. Answers P (start 0)) (sym c.in_ok-program.ensures)
    (ended_answers branching 3 (start 0) (number 6) machine_rows_hold.branch_ends)
