use Rattle.std.proofs.Common.{◌-◌, ◌≤◌, ap, ◌∙◌, sym, arith}
use Rattle.std.proofs.lemmas.Grind.{common_steps}
use Rattle.std.proofs.lemmas.Result.{IfOk-weaker}
use Rattle.qtt_term.specs.Globals.{env}
use Rattle.qtt_conv.proofs.Leading.{pair-same, left-spent, right-spent, made-within, same-apart, same-together}
use Rattle.qtt_envconv.specs.Nodes.{node}
use Rattle.qtt_envconv.specs.Spines.{found}
use Rattle.qtt_envconv.proofs.Leading.{heads-lead}
use Rattle.qtt_envconv.proofs.pair.compared_pair.Goals as goal

pub returns-then-branch : goal.returns-then-branch
returns-then-branch c = λ path is.
    let t = node c.args.left in
    let u = node c.args.right in
    pair-same (env c.args.env.now) c.args.n path t u is (same-together t u (c.in_ok-same.ensures.0 c.if-branch.true))

pub overflow_sub-rest : goal.overflow_sub-rest
overflow_sub-rest c =
    made-within (env c.args.env.now) c.args.n (node c.args.left) (node c.in-Head.left) c.in-Head.made
    (sym c.in_ok-left.ensures.found ∙ ap found c.in-Head.is)

pub overflow_add-made : goal.overflow_add-made
overflow_add-made c =
    let E = env c.args.env.now in
    let n = c.args.n in
    let made = c.in-Head.made in
    let left : made ≤ n = made-within E n (node c.args.left) (node c.in-Head.left) made
    (sym c.in_ok-left.ensures.found ∙ ap found c.in-Head.is) in
    let right : c.in-Head-2.more ≤ n - made =
    made-within E (n - made) (node c.args.right) (node c.in-Head-2.right) c.in-Head-2.more
    (sym c.in_ok-right-in-Head.ensures.found ∙ ap found c.in-Head-2.is) in
    grind (arith, common_steps, left, right)

pub returns-in-Head-2 : goal.returns-in-Head-2
returns-in-Head-2 c =
    let E = env c.args.env.now in
    let t = node c.args.left in
    let u = node c.args.right in
    let apart = same-apart t u (λ e. absurd (cc (c.in_ok-same.ensures.1 e, c.if-branch.false))) in
    let left_ready = rw c.in-Head.is at c.in_ok-left.ensures.ready in
    let right_ready = rw c.in-Head-2.is at c.in_ok-right-in-Head.ensures.ready in
    IfOk-weaker c.heads_compared.result _ _
    (λ o leads. heads-lead E c.args.n c.in-Head.made c.in-Head-2.more t u (node c.in-Head.left)
    (node c.in-Head-2.right) o apart
    (sym c.in_ok-left.ensures.found ∙ ap found c.in-Head.is)
    (sym c.in_ok-right-in-Head.ensures.found ∙ ap found c.in-Head-2.is) leads)
    (c.heads_compared.ensures E left_ready right_ready)

pub returns-in-Spent-2 : goal.returns-in-Spent-2
returns-in-Spent-2 c = λ path is.
    let t = node c.args.left in
    let u = node c.args.right in
    right-spent (env c.args.env.now) c.args.n c.in-Head.made path t u (node c.in-Head.left) is
    (same-apart t u (λ e. absurd (cc (c.in_ok-same.ensures.1 e, c.if-branch.false))))
    (sym c.in_ok-left.ensures.found ∙ ap found c.in-Head.is)
    (sym c.in_ok-right-in-Head.ensures.found ∙ ap found c.in-Spent-2.is)

pub returns-in-Spent : goal.returns-in-Spent
returns-in-Spent c = λ path is.
    let t = node c.args.left in
    let u = node c.args.right in
    left-spent (env c.args.env.now) c.args.n path t u is
    (same-apart t u (λ e. absurd (cc (c.in_ok-same.ensures.1 e, c.if-branch.false))))
    (sym c.in_ok-left.ensures.found ∙ ap found c.in-Spent.is)
