-- Laws of the plans of failing calls.
use Rattle.std.specs.Prelude.{◌≡◌, ℕ, ◌+◌, ◌^◌, ◌<◌}
use Rattle.qtt_edge.specs.Plan.{is_listed, taken_by, is_failing, taken_next, behind_calls, behind_puts}
use Rattle.qtt_edge.specs.declared.plan.FailingCalls.{FailingCalls}
use Rattle.qtt_edge.specs.declared.plan.FailingPuts.{FailingPuts}

-- whatever the calls between, the one that comes behind n others fails exactly where its number is in the list
abbrev pub CallsFailAsListed : Type 0
CallsFailAsListed =
    (plan : FailingCalls) (n : ℕ) → plan.made + n < 2 ^ 64 →
    is_failing (behind_calls n plan) ≡ is_listed plan.calls.items (plan.made + n)

-- and so do puts, which then take the bytes that the list says
abbrev pub PutsFailAsListed : Type 0
PutsFailAsListed =
    (plan : FailingPuts) (n : ℕ) → plan.made + n < 2 ^ 64 →
    taken_next (behind_puts n plan) ≡ taken_by plan.puts.items (plan.made + n)
