use Rattle.qtt_run.specs.Stop.{tape_failure}
use Rattle.qtt_run.proofs.Getting.{trap-ends, trap-breaks}
use Rattle.qtt_run.proofs.Stepping.{few-to-close, came-failed}
use Rattle.qtt_run.proofs.running.Running.trap.Goals as goal

pub close_all-requires-clause-few : goal.close_all-requires-clause-few
close_all-requires-clause-few g c = few-to-close c.requires.2

pub close_all-requires-clause-mirrors : goal.close_all-requires-clause-mirrors
close_all-requires-clause-mirrors g c = let a = c.requires.2 in (a.opened, a.mirrors)

pub returns-in_err-close_all-clause-comes : goal.returns-in_err-close_all-clause-comes
returns-in_err-close_all-clause-comes g c = λ o u a.
    let t = g.T.Tapes.tapes c.close_all.new.tapes in
    came-failed tape_failure o _ _ u t c.from_residual.result c.from_residual.ensures.1
    (trap-breaks c.args.kind a _ t (c.in_err-close_all.ensures.err a.opened a.mirrors))

pub returns-clause-comes : goal.returns-clause-comes
returns-clause-comes g c = λ o u a.
    let t = g.T.Tapes.tapes c.close_all.new.tapes in
    trap-ends c.args.kind a t (c.in_ok-close_all.ensures.ok a.opened a.mirrors)
