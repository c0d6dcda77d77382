-- Plans of the calls that fail, and what a plan is behind calls.
use Rattle.std.specs.Prelude.{ℕ, zero, suc, ◌==◌, Bool, List, Option, option_map, is_some, find}
use Rattle.std.specs.List.{list_any}
use Rattle.qtt_edge.specs.Counts.{raised, raised_if}
use Rattle.qtt_edge.specs.declared.plan.FailingCalls.{FailingCalls}
use Rattle.qtt_edge.specs.declared.plan.FailingPut.{FailingPut}
use Rattle.qtt_edge.specs.declared.plan.FailingPuts.{FailingPuts}

-- whether the call of this number is one of the list
abbrev pub is_listed : List ℕ → ℕ → Bool
is_listed calls number = list_any (λ call. call == number) calls

-- the number of bytes that the put of this number still takes, where it is one of the list
abbrev pub taken_by : List FailingPut → ℕ → Option ℕ
taken_by puts number = option_map (λ put. put.taken) (find (λ put. put.call == number) puts)

-- ---- the next call
abbrev pub is_failing : FailingCalls → Bool
is_failing plan = is_listed plan.calls.items plan.made

abbrev pub taken_next : FailingPuts → Option ℕ
taken_next plan = taken_by plan.puts.items plan.made

-- ---- behind it
-- one more call was made, and a fault is counted where it was to fail; the list stays
abbrev pub behind_call : FailingCalls → FailingCalls
behind_call plan = record plan { made = raised plan.made; faults = raised_if (is_failing plan) plan.faults }

abbrev pub behind_put : FailingPuts → FailingPuts
behind_put plan = record plan { made = raised plan.made; faults = raised_if (is_some (taken_next plan)) plan.faults }

-- ---- behind so many calls
abbrev pub behind_calls : ℕ → FailingCalls → FailingCalls
behind_calls zero plan = plan
behind_calls (suc n) plan = behind_calls n (behind_call plan)

abbrev pub behind_puts : ℕ → FailingPuts → FailingPuts
behind_puts zero plan = plan
behind_puts (suc n) plan = behind_puts n (behind_put plan)
