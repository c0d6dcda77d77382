-- Evaluation of erased terms within a bound of steps, and what the machine answers beside it.
use Rattle.std.specs.Prelude.{◌≡◌, ℕ, zero, suc}
use Rattle.qtt_base.specs.declared.place.GlobalId.{GlobalId}
use Rattle.qtt_term.specs.FullStep.{Cause}
use Rattle.qtt_erase.specs.Step.{Outcome}
use Rattle.qtt_erase.specs.Lean.{Lean}
use Rattle.qtt_closure.specs.Flat as flat
use Rattle.qtt_closure.specs.Flat.{FlatTerm}
use Rattle.qtt_closure.specs.StandsFor.{StandsFor}
use Rattle.qtt_code.specs.Value.{Value}
use Rattle.qtt_code.specs.Instruction.{Program}
use Rattle.qtt_code.specs.Machine.{State, Did, Halt, instruction, Reaches, Advances}
use Rattle.qtt_lower.specs.Represents.{flat_value, Represents}

pub data Ending : Type 0 where
  value : Lean → Ending
  trapped : Cause → Ending
  stuck : Ending
  -- the bound is reached
  going : Ending

-- how many steps were made, and what stands then
pub record Evaluation : Type 0 where
  pub made : ℕ
  pub ending : Ending

-- where no more steps may be made, and where one more may
abbrev pub stopped : ℕ → Lean → Outcome Lean → Evaluation
stopped n t Outcome.value = record { made = n; ending = Ending.value t }
stopped n t (Outcome.step u) = record { made = n; ending = Ending.going }
stopped n t (Outcome.trap k) = record { made = n; ending = Ending.trapped k }
stopped n t Outcome.stuck = record { made = n; ending = Ending.stuck }

abbrev pub continued : ℕ → Lean → Outcome Lean → (Lean → Evaluation) → Evaluation
continued n t Outcome.value next = record { made = n; ending = Ending.value t }
continued n t (Outcome.step u) next = next u
continued n t (Outcome.trap k) next = record { made = n; ending = Ending.trapped k }
continued n t Outcome.stuck next = record { made = n; ending = Ending.stuck }

-- at most so many steps after n of them
abbrev pub evaluation : (Lean → Outcome Lean) → ℕ → ℕ → Lean → Evaluation
evaluation step zero n t = stopped n t (step t)
evaluation step (suc more) n t = continued n t (step t) (evaluation step more (suc n))

-- ---- the machine beside it
-- a state represents an erased term through a flat one
pub record Runs (e : GlobalId → ℕ) (P : flat.Program) (t : Lean) (s : State) : Type 0 where
  pub flat : FlatTerm
  pub stands : StandsFor P t flat
  pub represents : Represents e flat s

-- what a state does where its term has this outcome. Of a term that is stuck nothing is said
abbrev pub FollowsErased : (GlobalId → ℕ) → flat.Program → Program → Lean → State → Outcome Lean → Type 0
FollowsErased e P C t s Outcome.value =
    (v : Value) × (r : State) × StandsFor P t (flat_value v) × Reaches C 0 s r × (instruction C r ≡ Did.ends v)
FollowsErased e P C t s (Outcome.step u) = (r : State) × Reaches C 1 s r × Runs e P u r
FollowsErased e P C t s (Outcome.trap k) = (r : State) × Reaches C 0 s r × (instruction C r ≡ Did.traps k)
FollowsErased e P C t s Outcome.stuck = Unit {0}

-- within so many ticks a machine halts in this way, after so many of them
abbrev pub HaltsAfter : Program → ℕ → State → ℕ → Halt → Type 0
HaltsAfter C bound s n h = (a : Advances C bound s h) × (a.made ≡ n)

-- the same ending after as many ticks as steps
abbrev pub Answers : flat.Program → Program → ℕ → State → ℕ → Ending → Type 0
Answers P C bound s n (Ending.value t) =
    (v : Value) × StandsFor P t (flat_value v) × HaltsAfter C bound s n (Halt.done v)
Answers P C bound s n (Ending.trapped k) = HaltsAfter C bound s n (Halt.trapped k)
Answers P C bound s n Ending.going = HaltsAfter C bound s n Halt.spent
Answers P C bound s n Ending.stuck = Unit {0}
