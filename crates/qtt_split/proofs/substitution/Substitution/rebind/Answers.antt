use Rattle.std.proofs.Common.{◌≡◌, ◌∙◌, ℕ, suc, map, Result, Ok, Err, OnOk, ap}
use Rattle.std.proofs.lemmas.List.{take_all}
use Rattle.qtt_term.specs.Shift.{raised}
use Rattle.qtt_term.specs.Substitution.{ren}
use Rattle.qtt_term.specs.Term.{Term, var}
use Rattle.qtt_term.specs.View.{terms}
use Rattle.qtt_term.proofs.Binders.{var-seen}
use Rattle.qtt_split.specs.Branch.{put}
use Rattle.qtt_split.specs.Substitution.{stands_for, values_or_raised}
use Rattle.qtt_split.proofs.Substituted.{deeper, put-along}
use Rattle.qtt_split.proofs.substitution.Substitution.rebind.Goals as goal

on-ok : {A E : Type 0} {P Q : Type 0} (r : Result A E) → (P → Q) → OnOk r P → OnOk r Q
on-ok (Ok a) f h = f h
on-ok (Err e) f h = tt

pub returns : goal.returns
returns c =
    let s = c.args.self.now in
    let vs = s.values.items in
    let ws = c.loop-value.deeper.items in
    let x = c.args.variable in
    let list = c.deref-value-items.result.now in
    let all : terms ws ≡ map (ren (raised 0 1)) (terms vs) =
    c.loop-value.invariant ∙
    ap (λ us. map (ren (raised 0 1)) (terms us))
    (take_all c.loop-value.value-index list c.loop-value-test.false ∙ c.deref-value-items.ensures.value) in
    let by = c.in_ok-self.field-0 in
    let middle : ℕ → Term = λ j. values_or_raised ws by j in
    let below : (j : ℕ) → middle j ≡ ren suc (stands_for s j) =
    λ j. ap (λ b. values_or_raised ws b j) c.in_ok-self.ensures ∙ deeper vs ws s.by j all in
    on-ok c.put.result
    (λ h i. h i ∙ ap (λ u. put x u middle i) (var-seen 0) ∙
    put-along x (var 0) middle (λ j. ren suc (stands_for s j)) below i)
    c.put.ensures
