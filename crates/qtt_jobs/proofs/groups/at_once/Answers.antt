use Rattle.std.proofs.Common.{arith, subst}
use Rattle.qtt_jobs.specs.Answered.{AllAnswered}
use Rattle.qtt_jobs.proofs.Stopping.{all-answered}
use Rattle.qtt_jobs.proofs.groups.at_once.Goals as goal

pub returns : goal.returns
returns g c =
    let w = g.W.Work.answers c.args.work.now in
    let jobs = c.in_ok-from_slice.field-0 in
    let done = c.in_ok-map_vec.field-0 in
    let gave = c.in_ok-map_vec.ensures in
    subst (λ js. AllAnswered w js done.items) c.in_ok-from_slice.ensures.items
    (all-answered w _ _ (λ j r h. h.met) jobs.items done.items (omega (arith, gave.len, done.ok.0, jobs.ok.0))
    gave.each)
