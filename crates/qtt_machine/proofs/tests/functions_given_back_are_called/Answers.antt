use Rattle.std.proofs.Common.{pos, sym, subst, ◌∙◌}
use Rattle.qtt_code.specs.Machine as machine
use Rattle.qtt_code.specs.Machine.{start, Advances, called}
use Rattle.qtt_value.specs.View.{value}
use Rattle.qtt_value.specs.declared.val.Val.TheVariants as val
use Rattle.qtt_machine.proofs.Levels.{value_of_number}
use Rattle.qtt_machine.specs.Halting.{halt}
use Rattle.qtt_machine.specs.Machine.{program, state}
use Rattle.qtt_machine.specs.Runs.{Answers}
use Rattle.qtt_machine.proofs.Example.{closing_answers, call_answers}
use Rattle.qtt_machine.proofs.tests.functions_given_back_are_called.Goals as goal

pub start-requires-clause-answers : goal.start-requires-clause-answers
start-requires-clause-answers g c = subst (λ P. Answers P (start 0)) (sym c.in_ok-program.ensures) closing_answers

pub call-requires-clause-answers : goal.call-requires-clause-answers
call-requires-clause-answers g c =
    let m = c.in_ok-machine.machine in
    let run : Advances (program m) 5 (state m) (machine.Halt.done (value c.in-Done.function)) =
    subst (λ h. Advances (program m) 5 (state m) (halt h)) c.in-Done.is c.in_ok-function.ensures.ran.run in
    subst (λ P. Answers P (called (value c.in-Done.function) (value (val.Int (pos 3)))))
    (sym c.in_ok-function.ensures.same_program)
    (call_answers (program m) (state m) (value c.in-Done.function) (value (val.Int (pos 3)))
    (c.in_ok-machine.ensures.same_program ∙ c.in_ok-program.ensures)
    c.in_ok-machine.ensures.at (value_of_number (pos 3)) run)
