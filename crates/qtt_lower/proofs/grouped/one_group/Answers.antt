use Rattle.std.proofs.Common.{◌≡◌, length, map, sym, ◌∙◌, ap, subst, rules, arith}
use Rattle.std.specs.Fork.{GivesJobs}
use Rattle.std.proofs.lemmas.Grind.{common_steps}
use Rattle.std.proofs.lemmas.List.{length-map, map-id}
use Rattle.std.proofs.lemmas.Iterator.Adapters.{YieldsList-from_vec}
use Rattle.std.proofs.lemmas.Iterator.Consumers.{YieldsList-end}
use Rattle.qtt_lower.proofs.Answering.{value, answered-jobs}
use Rattle.qtt_lower.proofs.grouped.one_group.Goals as goal

pub returns : goal.returns
returns g c =
    let start = YieldsList-from_vec {s = c.into_iter-answer-iterator.result}
    c.in_ok-answer-items.answer-items.items (search rules) (search rules) in
    let end = YieldsList-end start c.loop-answer.yielded c.loop-answer.answer-iterator c.loop-answer.yielded_by
    c.next.result c.next.new.self c.in-None.is c.next.ensures.steps in
    let all : map (value g.F.Fn c.args.work.now) c.loop-answer.answers.items ≡ c.in_ok-answer-items.answer-items.items =
    c.loop-answer.invariant ∙ sym (map-id c.loop-answer.yielded) ∙ end.0 in
    let len : length c.loop-answer.answers.items ≡ length c.args.group.now =
    sym (length-map c.loop-answer.answers.items (value g.F.Fn c.args.work.now)) ∙ ap length all
    ∙ grind (
      arith,
      common_steps,
      c.in_ok-answer-items.ensures.len,
      c.in_ok-answer-items.answer-items.ok,
      c.in_ok-from_slice.ensures.len,
    ) in
    answered-jobs g.F.Fn c.args.work.now c.args.group.now c.loop-answer.answers.items len
    (subst (λ rs. GivesJobs g.F.Fn c.args.work.now c.args.group.now rs) (sym all)
    (subst (λ js. GivesJobs g.F.Fn c.args.work.now js c.in_ok-answer-items.answer-items.items)
    c.in_ok-from_slice.ensures.items c.in_ok-answer-items.ensures.each))
