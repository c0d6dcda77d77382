use Rattle.std.proofs.Common.{◌<◌, ◌≤◌, ◌-◌, arith}
use Rattle.qtt_run.specs.Underway.{fuel}
use Rattle.qtt_run.specs.Stop.{failure}
use Rattle.qtt_run.proofs.Asked.{at-halts, has-fuel}
use Rattle.qtt_run.proofs.Stepping.{came-failed}
use Rattle.qtt_run.proofs.running.Running.go_on.Goals as goal

pub turns-init : goal.turns-init
turns-init g c = record {
  some = c.requires;
  all = λ o a. a;
  source = omega arith;
  sink = omega arith;
  tape = omega arith;
}

pub returns-in-Halts-clause-comes : goal.returns-in-Halts-clause-comes
returns-in-Halts-clause-comes g c = λ o a.
    at-halts o (g.S.Source.content c.turns.input) _ _ c.turns.self c.in-Halts.is (c.turns.invariant.all o a)

pub step-requires : goal.step-requires
step-requires g c = c.turns.invariant.some

pub returns-in_err-turn-clause-comes : goal.returns-in_err-turn-clause-comes
returns-in_err-turn-clause-comes g c = λ o a.
    came-failed failure o _ _ _ _ c.from_residual.result c.from_residual.ensures.1
    (c.in_err-turn.ensures.turns o (c.turns.invariant.all o a))

pub turns-smaller : goal.turns-smaller
turns-smaller g c =
    let f : 0 < fuel c.turns.turn c.turns.self.left =
    has-fuel c.turns.turn c.turns.self.left (λ h. c.in_default.not-Halts h) in
    let l : fuel c.in_ok-turn.turn c.step.new.self.left ≤ fuel c.turns.turn c.turns.self.left - 1 =
    c.in_ok-turn.ensures.less in
    omega (arith, f, l)

pub turns-preserved : goal.turns-preserved
turns-preserved g c =
    let (o, a) = c.turns.invariant.some in
    record {
      some = (o, c.in_ok-turn.ensures.turns o a);
      all = λ o a. c.in_ok-turn.ensures.turns o (c.turns.invariant.all o a);
      source = omega (arith, c.turns.invariant.source, c.step.ensures.source.later);
      sink = omega (arith, c.turns.invariant.sink, c.step.ensures.sink.later);
      tape = omega (arith, c.turns.invariant.tape, c.step.ensures.tape.later);
    }
