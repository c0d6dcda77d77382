use Rattle.std.proofs.Common.{◌≡◌, ◌∙◌, ℕ, map, drop, ap, arith}
use Rattle.qtt_term.specs.Substitution.{shift}
use Rattle.qtt_term.specs.Term.{Term, var}
use Rattle.qtt_term.specs.View.{term}
use Rattle.qtt_unify.specs.View.{solution}
use Rattle.qtt_split.specs.Branch.{put, put_all}
use Rattle.qtt_split.specs.Substitution.{stands_for}
use Rattle.qtt_split.proofs.Substituted.{put-along}
use Rattle.qtt_split.proofs.branching.standing.Goals as goal

pub returns : goal.returns
returns c =
    let s = c.args.solved.now in
    let x = c.args.variable in
    let base : ℕ → Term = λ j. var (shift c.args.fields j) in
    let before = stands_for c.loop-place.stands in
    let first : c.loop-place.place ≡ 0 = omega (arith, c.loop-place-test.false) in
    λ i. c.in_ok-put-2.ensures i ∙ ap (λ t. put x t before i) c.in_ok-copy-2.ensures ∙
    put-along x (term c.args.con.now) before (put_all (map solution s) base)
    (λ j. c.loop-place.invariant j ∙ ap (λ k. put_all (map solution (drop k s)) base j) first) i
