use Rattle.std.proofs.Common.{◌≡◌, ◌∙◌, ◌-◌, [], sym, subst, arith}
use Rattle.std.proofs.lemmas.Grind.{common_steps}
use Rattle.qtt_code.specs.Forward.{AllJumpForward}
use Rattle.qtt_code.specs.Machine.{called}
use Rattle.qtt_value.specs.View.{value}
use Rattle.qtt_machine.specs.Runs.{Answers}
use Rattle.qtt_run.specs.Stop.{memory_failure}
use Rattle.qtt_run.proofs.Stepping.{turn-failed, underway-broken, given-ends, given-bound, given-acts, given-answers}
use Rattle.qtt_run.proofs.running.Running.give.Goals as goal

pub returns-in_default-clause-turns : goal.returns-in_default-clause-turns
returns-in_default-clause-turns c = λ o m i u t a.
    let none : c.args.self.now.waiting.items ≡ [] = grind (arith, common_steps) in
    given-ends o i u t c.args.self.now a none

pub returns-then-self-eq0-clause-turns : goal.returns-then-self-eq0-clause-turns
returns-then-self-eq0-clause-turns c = λ o m i u t a.
    given-bound o i u t c.args.self.now a c.pop.new.self.items c.in-Some.rest c.in-Some.ensures.items c.if-self-eq0.true

pub call-requires-clause-jumps : goal.call-requires-clause-jumps
call-requires-clause-jumps c =
    let (o, m, i, u, t, a) = c.requires in subst AllJumpForward (sym a.stands) o.jumps

pub call-requires-clause-answers : goal.call-requires-clause-answers
call-requires-clause-answers c =
    let (o, m, i, u, t, a) = c.requires in
    subst (λ P. Answers P (called (value c.in-Some.rest) (value c.args.res))) (sym a.stands)
    (given-answers o i u t c.args.self.now a c.pop.new.self.items c.in-Some.rest c.in-Some.ensures.items)

pub returns-in_err-call-clause-turns : goal.returns-in_err-call-clause-turns
returns-in_err-call-clause-turns c = λ o m i u t a.
    turn-failed memory_failure o _ _ i u t c.from_residual.result c.from_residual.ensures.1
    (underway-broken c.args.self.now a)

pub returns-clause-turns : goal.returns-clause-turns
returns-clause-turns c = λ o m i u t a.
    let n = c.args.self.now in
    let l : n.left ≡ 0 → ⊥ = c.if-self-eq0.false in
    let b = c.in_ok-call.ensures in (
      called (value c.in-Some.rest) (value c.args.res),
      record {
        run = given-acts o i u t n a c.pop.new.self.items c.in-Some.rest c.in-Some.ensures.items (n.left - 1)
            (omega (arith, l));
        stands = (b.same_program ∙ a.stands, b.at, b.ready);
      },
    )
