-- Full evaluation within a bound of steps, and what the machine answers beside it.
use Rattle.std.specs.Prelude.{ℕ, zero, suc, List}
use Rattle.qtt_base.specs.declared.place.GlobalId.{GlobalId}
use Rattle.qtt_term.specs.Term.{Term}
use Rattle.qtt_term.specs.Signature.{Env}
use Rattle.qtt_term.specs.FullStep.{Cause, Outcome, full_step}
use Rattle.qtt_code.specs.Value.{Value}
use Rattle.qtt_code.specs.Machine.{State, Halt}
use Rattle.qtt_lower.specs.Evaluation.{HaltsAfter}
use Rattle.qtt_run.specs.Code.{code, IsValueOf}

pub data Ending : Type 0 where
  value : Term → Ending
  trapped : Cause → Ending
  stuck : Ending
  -- the bound is reached
  going : Ending

-- how many steps were made, and what stands then
pub record Evaluation : Type 0 where
  pub made : ℕ
  pub ending : Ending

-- where no more steps may be made, and where one more may
abbrev pub stopped : ℕ → Term → Outcome → Evaluation
stopped n t Outcome.value = record { made = n; ending = Ending.value t }
stopped n t (Outcome.step s) = record { made = n; ending = Ending.going }
stopped n t (Outcome.trap k) = record { made = n; ending = Ending.trapped k }
stopped n t Outcome.stuck = record { made = n; ending = Ending.stuck }

abbrev pub continued : ℕ → Term → Outcome → (Term → Evaluation) → Evaluation
continued n t Outcome.value next = record { made = n; ending = Ending.value t }
continued n t (Outcome.step s) next = next s
continued n t (Outcome.trap k) next = record { made = n; ending = Ending.trapped k }
continued n t Outcome.stuck next = record { made = n; ending = Ending.stuck }

-- at most so many full steps after n of them
abbrev pub evaluated : Env → ℕ → ℕ → Term → Evaluation
evaluated E zero n t = stopped n t (full_step E t)
evaluated E (suc more) n t = continued n t (full_step E t) (evaluated E more (suc n))

-- the machine ends so too, after as many ticks as steps; it is never stuck
abbrev pub Answers : Env → List GlobalId → ℕ → State → ℕ → Ending → Type 0
Answers E ds bound s n (Ending.value t) =
    (v : Value) × IsValueOf E ds t v × HaltsAfter (code E ds) bound s n (Halt.done v)
Answers E ds bound s n (Ending.trapped k) = HaltsAfter (code E ds) bound s n (Halt.trapped k)
Answers E ds bound s n Ending.going = HaltsAfter (code E ds) bound s n Halt.spent
Answers E ds bound s n Ending.stuck = ⊥

-- within each bound a state answers what full evaluation of a term gives
abbrev pub AnswersAs : Env → List GlobalId → State → Term → Type 0
AnswersAs E ds s t = (bound : ℕ) → let x : Evaluation = evaluated E bound 0 t in Answers E ds bound s x.made x.ending
