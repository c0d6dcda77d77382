use Rattle.std.proofs.Common.{◌-◌, ◌≤◌, refl, ap, ◌∙◌, sym, arith}
use Rattle.std.proofs.lemmas.Grind.{common_steps}
use Rattle.std.proofs.lemmas.Result.{IfOk-weaker}
use Rattle.qtt_term.specs.Answers.{head as head_of}
use Rattle.qtt_term.specs.Globals.{env}
use Rattle.qtt_term.specs.View.{term}
use Rattle.qtt_conv.proofs.Leading.{pair-same, left-spent, right-spent, made-within, same-apart, same-together, heads-lead}
use Rattle.qtt_conv.proofs.pair.compared_pair.Goals as goal

pub returns-then-same : goal.returns-then-same
returns-then-same c = λ path is.
    let t = term c.args.t.now in
    let u = term c.args.u.now in
    pair-same (env c.args.env.now) c.args.n path t u is (same-together t u (c.if-same.ensures.0 refl))

pub overflow_sub-n : goal.overflow_sub-n
overflow_sub-n c =
    made-within (env c.args.env.now) c.args.n (term c.args.t.now) (term c.in-Done.left) c.in-Done.made
    (sym c.in_ok-left.ensures ∙ ap head_of c.in-Done.is)

pub overflow_add-made : goal.overflow_add-made
overflow_add-made c =
    let E = env c.args.env.now in
    let n = c.args.n in
    let made = c.in-Done.made in
    let left : made ≤ n = made-within E n (term c.args.t.now) (term c.in-Done.left) made
    (sym c.in_ok-left.ensures ∙ ap head_of c.in-Done.is) in
    let right : c.in-Done-2.more ≤ n - made =
    made-within E (n - made) (term c.args.u.now) (term c.in-Done-2.right) c.in-Done-2.more
    (sym c.in_ok-right-in-Done.ensures ∙ ap head_of c.in-Done-2.is) in
    grind (arith, common_steps, left, right)

pub returns-in-Done-2 : goal.returns-in-Done-2
returns-in-Done-2 c =
    let E = env c.args.env.now in
    let t = term c.args.t.now in
    let u = term c.args.u.now in
    let apart = same-apart t u (λ e. absurd (cc (c.if-same.ensures.1 e))) in
    IfOk-weaker c.heads_compared.result _ _
    (λ o leads. heads-lead E c.args.n c.in-Done.made c.in-Done-2.more t u (term c.in-Done.left)
    (term c.in-Done-2.right) o apart
    (sym c.in_ok-left.ensures ∙ ap head_of c.in-Done.is)
    (sym c.in_ok-right-in-Done.ensures ∙ ap head_of c.in-Done-2.is) leads)
    c.heads_compared.ensures

pub returns-in-Spent-2 : goal.returns-in-Spent-2
returns-in-Spent-2 c = λ path is.
    let E = env c.args.env.now in
    let t = term c.args.t.now in
    let u = term c.args.u.now in
    right-spent E c.args.n c.in-Done.made path t u (term c.in-Done.left) is
    (same-apart t u (λ e. absurd (cc (c.if-same.ensures.1 e))))
    (sym c.in_ok-left.ensures ∙ ap head_of c.in-Done.is)
    (sym c.in_ok-right-in-Done.ensures ∙ ap head_of c.in-Spent-2.is)

pub returns-in-Spent : goal.returns-in-Spent
returns-in-Spent c = λ path is.
    let E = env c.args.env.now in
    let t = term c.args.t.now in
    let u = term c.args.u.now in
    left-spent E c.args.n path t u is (same-apart t u (λ e. absurd (cc (c.if-same.ensures.1 e))))
    (sym c.in_ok-left.ensures ∙ ap head_of c.in-Spent.is)
