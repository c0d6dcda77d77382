use Rattle.qtt_run.specs.Stop.{failure}
use Rattle.qtt_run.proofs.Asked.{at-gives, at-computes, at-halts, at-done, at-trap, at-spent}
use Rattle.qtt_run.proofs.Stepping.{turn-failed}
use Rattle.qtt_run.proofs.running.Running.step.Goals as goal

pub returns-in-Halts-clause-turns : goal.returns-in-Halts-clause-turns
returns-in-Halts-clause-turns g c = λ o a. at-halts o _ _ _ c.args.self.now c.in-Halts.is a

pub perform-requires : goal.perform-requires
perform-requires g c = let (o, a) = c.requires in (o, at-gives c.args.self.now c.in-Gives.is a)

pub returns-in-Gives-clause-turns : goal.returns-in-Gives-clause-turns
returns-in-Gives-clause-turns g c = λ o a. c.perform.ensures.turns o (at-gives c.args.self.now c.in-Gives.is a)

pub compute-requires : goal.compute-requires
compute-requires g c = let (o, a) = c.requires in (o, _, _, _, at-computes c.args.self.now c.in-Computes.is a)

pub returns-in_err-given-in-Computes-clause-turns : goal.returns-in_err-given-in-Computes-clause-turns
returns-in_err-given-in-Computes-clause-turns g c = λ o a.
    turn-failed failure o _ _ _ _ _ c.from_residual.result c.from_residual.ensures.1
    (c.in_err-given-in-Computes.ensures.halts o _ _ _ (at-computes c.args.self.now c.in-Computes.is a))

pub perform-requires-in-Done : goal.perform-requires-in-Done
perform-requires-in-Done g c =
    let (o, a) = c.requires in (
      o,
      at-done _ c.in-Done.is
          (c.in_ok-given-in-Computes.ensures.halts o _ _ _ (at-computes c.args.self.now c.in-Computes.is a)),
    )

pub returns-in-Done-clause-turns : goal.returns-in-Done-clause-turns
returns-in-Done-clause-turns g c = λ o a.
    c.perform-in-Done.ensures.turns o
    (at-done _ c.in-Done.is (c.in_ok-given-in-Computes.ensures.halts o _ _ _
    (at-computes c.args.self.now c.in-Computes.is a)))

pub trap-requires : goal.trap-requires
trap-requires g c =
    let (o, a) = c.requires in (
      o,
      g.O.Sink.content c.args.out.now,
      at-trap o (g.S.Source.content c.args.input.now) _ _ _ c.in-Trap.is
          (c.in_ok-given-in-Computes.ensures.halts o (g.S.Source.content c.args.input.now) _ _
          (at-computes c.args.self.now c.in-Computes.is a)),
    )

pub returns-in_err-trap-in-Trap-clause-turns : goal.returns-in_err-trap-in-Trap-clause-turns
returns-in_err-trap-in-Trap-clause-turns g c = λ o a.
    turn-failed failure o _ _ _ _ _ c.from_residual-in_err-trap-in-Trap.result
    c.from_residual-in_err-trap-in-Trap.ensures.1
    (c.in_err-trap-in-Trap.ensures.comes o (g.O.Sink.content c.args.out.now)
    (at-trap o (g.S.Source.content c.args.input.now) _ _ _ c.in-Trap.is
    (c.in_ok-given-in-Computes.ensures.halts o (g.S.Source.content c.args.input.now) _ _
    (at-computes c.args.self.now c.in-Computes.is a))))

pub returns-in_ok-trap-in-Trap-clause-turns : goal.returns-in_ok-trap-in-Trap-clause-turns
returns-in_ok-trap-in-Trap-clause-turns g c = λ o a.
    c.in_ok-trap-in-Trap.ensures.comes o (g.O.Sink.content c.args.out.now)
    (at-trap o (g.S.Source.content c.args.input.now) _ _ _ c.in-Trap.is
    (c.in_ok-given-in-Computes.ensures.halts o (g.S.Source.content c.args.input.now) _ _
    (at-computes c.args.self.now c.in-Computes.is a)))

pub returns-in-Spent-clause-turns : goal.returns-in-Spent-clause-turns
returns-in-Spent-clause-turns g c = λ o a.
    at-spent o (g.S.Source.content c.args.input.now) _ _ _ c.in-Spent.is
    (c.in_ok-given-in-Computes.ensures.halts o (g.S.Source.content c.args.input.now) _ _
    (at-computes c.args.self.now c.in-Computes.is a))
