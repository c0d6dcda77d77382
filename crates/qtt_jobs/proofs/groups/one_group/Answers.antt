use Rattle.std.proofs.Common.{◌≡◌, ◌++◌, ◌∷◌, [], inr, map, Err, sym, ap, subst, ◌∙◌, arith}
use Rattle.std.specs.Vec.Iter.{into_iter_items}
use Rattle.std.proofs.lemmas.List.{append-nil}
use Rattle.std.proofs.lemmas.Result.{err_from_is_err_and}
use Rattle.qtt_jobs.specs.Answered.{AllAnswered}
use Rattle.qtt_jobs.proofs.Stopping.{value, answered-all, stopped-all, no_length}
use Rattle.qtt_jobs.proofs.groups.one_group.Goals as goal

pub returns-in_err-answer-clause-stopped : goal.returns-in_err-answer-clause-stopped
returns-in_err-answer-clause-stopped g c =
    let js = c.args.group.now in
    let w = g.W.Work.answers c.args.work.now in
    let given = c.in_ok-answer-items.answer-items in
    let xs = c.loop-answer.values.items in
    let e = c.in_err-answer.field-0.0 in
    let rest = into_iter_items c.next.new.self in
    let step : into_iter_items c.loop-answer.answer-iterator ≡ Err e ∷ rest =
    (c.in-Some.ensures.steps).0 ∙ ap (λ r. r ∷ rest) c.in_err-answer.was in
    let start : into_iter_items c.into_iter-answer-iterator.result ≡ given.items =
    c.into_iter-answer-iterator.ensures.into_iter_gives.0 in
    let all : given.items ≡ map (value w) xs ++ Err e ∷ rest =
    sym start ∙ c.loop-answer.invariant ∙ ap (λ rs. map (value w) xs ++ rs) step in
    let p = err_from_is_err_and c.from_residual-in_err-answer.result c.from_residual-in_err-answer.ensures.1 in
    rw (p.1, p.2) (inr (stopped-all w js xs e rest
    (subst (λ rs. AllAnswered w js rs) all c.in_ok-answer-items.ensures)))

pub returns-clause-answered : goal.returns-clause-answered
returns-clause-answered g c =
    let js = c.args.group.now in
    let w = g.W.Work.answers c.args.work.now in
    let given = c.in_ok-answer-items.answer-items in
    let xs = c.loop-answer.values.items in
    let left = into_iter_items c.loop-answer.answer-iterator in
    let start : into_iter_items c.into_iter-answer-iterator.result ≡ given.items =
    c.into_iter-answer-iterator.ensures.into_iter_gives.0 in
    let none : left ≡ [] =
    no_length left (omega (arith, c.in-None.ensures.steps.0, c.loop-answer.answer-iterator.rest.ok.0)) in
    let all : given.items ≡ map (value w) xs =
    sym start ∙ c.loop-answer.invariant ∙ ap (λ rs. map (value w) xs ++ rs) none ∙ append-nil (map (value w) xs) in
    answered-all w js xs (subst (λ rs. AllAnswered w js rs) all c.in_ok-answer-items.ensures)
