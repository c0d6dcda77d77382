use Rattle.std.proofs.Common.{◌≡◌, ◌++◌, [], append_assoc, refl, sym, ap, subst, ◌∙◌, arith}
use Rattle.std.proofs.lemmas.Grind.{common_steps}
use Rattle.std.proofs.lemmas.Result.{err_from_is_err_and}
use Rattle.qtt_jobs.specs.Answered.{Answered}
use Rattle.qtt_jobs.proofs.Stopping.{answered-append, stopped-among}
use Rattle.qtt_jobs.proofs.groups.in_groups.Goals as goal

pub loop-rest-init : goal.loop-rest-init
loop-rest-init g c =
    ([], refl, subst (λ xs. Answered (g.W.Work.answers c.args.work.now) [] xs) (sym c.in_ok-answers.ensures) tt)

pub loop-rest-preserved : goal.loop-rest-preserved
loop-rest-preserved g c =
    let w = c.args.work.now in
    let (front, whole, done) = c.loop-rest.invariant in
    let group = c.split_at.result.0.now in
    let others = c.split_at.result.1.now in
    let cut : group ++ others ≡ c.loop-rest.rest.now =
    grind (arith, common_steps, c.split_at.ensures.front, c.split_at.ensures.back) in (
      front ++ group,
      append_assoc front group others ∙ ap (λ js. front ++ js) cut ∙ whole,
      subst (λ xs. Answered (g.W.Work.answers w) (front ++ group) xs) (sym c.in_ok-put_all.ensures)
          (answered-append (g.W.Work.answers w) front group c.loop-rest.answers.items c.in_ok-more.more.items done
          c.in_ok-more.ensures.answered),
    )

pub returns-in_err-more-clause-stopped : goal.returns-in_err-more-clause-stopped
returns-in_err-more-clause-stopped g c =
    let w = c.args.work.now in
    let (front, whole, done) = c.loop-rest.invariant in
    let group = c.split_at.result.0.now in
    let others = c.split_at.result.1.now in
    let e = c.in_err-more.field-0.0 in
    let cut : group ++ others ≡ c.loop-rest.rest.now =
    grind (arith, common_steps, c.split_at.ensures.front, c.split_at.ensures.back) in
    let jobs : front ++ (group ++ others) ≡ c.args.jobs.now = ap (λ js. front ++ js) cut ∙ whole in
    let p = err_from_is_err_and c.from_residual-in_err-more.result c.from_residual-in_err-more.ensures.1 in
    rw (p.1, p.2) (stopped-among (g.W.Work.answers w) front group others c.args.jobs.now c.loop-rest.answers.items e
    done
    jobs c.in_err-more.ensures.stopped)
