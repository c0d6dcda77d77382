use Rattle.std.proofs.Common.{◌≡◌, ◌++◌, [], append_assoc, subst, sym, ap, ◌∙◌, arith}
use Rattle.std.proofs.lemmas.Grind.{common_steps}
use Rattle.std.proofs.lemmas.Bool.Decides.{nat_tests}
use Rattle.std.proofs.lemmas.List.{append-nil}
use Rattle.qtt_lower.specs.Answered.{Answered}
use Rattle.qtt_lower.proofs.Answering.{answered-append, no_length}
use Rattle.qtt_lower.proofs.grouped.grouped.Goals as goal

pub loop-rest-init : goal.loop-rest-init
loop-rest-init g c = λ xs h. subst (λ ys. Answered g.F.Fn c.args.work.now c.args.ids.now (ys ++ xs))
    (sym c.new-answers.ensures.items) h

pub loop-rest-preserved : goal.loop-rest-preserved
loop-rest-preserved g c =
    λ xs h.
    let more = c.in_ok-more.more.items in
    let whole : c.split_at.result.0.now ++ c.split_at.result.1.now ≡ c.loop-rest.rest.now =
    grind (arith, common_steps, c.split_at.ensures.front, c.split_at.ensures.back) in
    let both = answered-append g.F.Fn c.args.work.now c.split_at.result.0.now c.split_at.result.1.now more xs
    c.in_ok-more.ensures h in
    let all = c.loop-rest.invariant (more ++ xs)
    (subst (λ js. Answered g.F.Fn c.args.work.now js (more ++ xs)) whole both) in
    subst (λ ys. Answered g.F.Fn c.args.work.now c.args.ids.now ys)
    (sym (ap (λ ys. ys ++ xs) c.in_ok-append.ensures.items ∙ append_assoc c.loop-rest.answers.items more xs)) all

pub returns : goal.returns
returns g c =
    let none : c.loop-rest.rest.now ≡ [] =
    no_length c.loop-rest.rest.now (grind (arith, nat_tests, c.is_empty.ensures, c.loop-rest-test.false)) in
    subst (λ ys. Answered g.F.Fn c.args.work.now c.args.ids.now ys) (append-nil c.loop-rest.answers.items)
    (c.loop-rest.invariant [] (subst (λ js. Answered g.F.Fn c.args.work.now js []) (sym none) tt))
