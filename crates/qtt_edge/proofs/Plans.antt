-- Plans of failing calls behind so many calls.
use Rattle.std.proofs.Common.{◌≡◌, ℕ, zero, suc, ◌+◌, ◌^◌, ◌<◌, sym, ap, ◌∙◌, arith, add-zero}
use Rattle.qtt_edge.specs.Counts.{raised}
use Rattle.qtt_edge.specs.Laws.{CallsFailAsListed, PutsFailAsListed}
use Rattle.qtt_edge.specs.Plan.{is_listed, taken_by, behind_call, behind_put}

-- a number that isn't the last one rises by 1
raised-one : (made n : ℕ) → made + suc n < 2 ^ 64 → raised made + n ≡ made + suc n
raised-one made n small = omega (arith, small)

pub calls-fail-as-listed : CallsFailAsListed
calls-fail-as-listed plan zero small = ap (is_listed plan.calls.items) (sym (add-zero plan.made))
calls-fail-as-listed plan (suc n) small =
    let next : raised plan.made + n ≡ plan.made + suc n = raised-one plan.made n small in
    calls-fail-as-listed (behind_call plan) n (omega (arith, next, small)) ∙ ap (is_listed plan.calls.items) next

pub puts-fail-as-listed : PutsFailAsListed
puts-fail-as-listed plan zero small = ap (taken_by plan.puts.items) (sym (add-zero plan.made))
puts-fail-as-listed plan (suc n) small =
    let next : raised plan.made + n ≡ plan.made + suc n = raised-one plan.made n small in
    puts-fail-as-listed (behind_put plan) n (omega (arith, next, small)) ∙ ap (taken_by plan.puts.items) next
