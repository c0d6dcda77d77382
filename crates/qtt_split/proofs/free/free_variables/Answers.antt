use Rattle.std.proofs.Common.{◌≡◌, ◌∙◌, ◌-◌, ◌++◌, suc, true, false, [], ◌∷◌, ap, sym, rules, arith}
use Rattle.std.specs.List.{filter}
use Rattle.qtt_unify.specs.Targets.{is_free}
use Rattle.qtt_unify.specs.View.{scrutinee}
use Rattle.qtt_split.specs.Seen.{oldest_first}
use Rattle.qtt_split.proofs.Chosen.{chosen-more, chosen-same}
use Rattle.qtt_split.proofs.free.free_variables.Goals as goal

pub loop-variable-preserved-in-Continue-branch-3 : goal.loop-variable-preserved-in-Continue-branch-3
loop-variable-preserved-in-Continue-branch-3 c =
    let S = scrutinee c.args.scrutinee.now in
    let front = c.loop-variable.free.items in
    let n = c.loop-variable.variable - 1 in
    let e : c.loop-variable.variable ≡ suc n = omega (arith, c.loop-variable-test.true) in
    let there : is_free S n ≡ true = sym c.in_ok-is_free.ensures ∙ c.if-branch.true in
    let now : c.push.new.self.items ≡ front ++ n ∷ [] = search rules in
    c.loop-variable.invariant ∙ ap (λ k. front ++ filter (is_free S) (oldest_first k)) e ∙
    chosen-more (is_free S) n front there ∙ ap (λ xs. xs ++ filter (is_free S) (oldest_first n)) (sym now)

pub loop-variable-preserved : goal.loop-variable-preserved
loop-variable-preserved c =
    let S = scrutinee c.args.scrutinee.now in
    let front = c.loop-variable.free.items in
    let n = c.loop-variable.variable - 1 in
    let e : c.loop-variable.variable ≡ suc n = omega (arith, c.loop-variable-test.true) in
    let none : is_free S n ≡ false = sym c.in_ok-is_free.ensures ∙ c.if-branch.false in
    c.loop-variable.invariant ∙ ap (λ k. front ++ filter (is_free S) (oldest_first k)) e ∙
    ap (λ xs. front ++ xs) (chosen-same (is_free S) n none)
