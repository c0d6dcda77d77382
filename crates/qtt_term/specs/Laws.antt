-- The laws that the functions of this crate ensure.
use Rattle.std.specs.Prelude.{◌≡◌, ◌↔◌, ℕ, suc, List, []}
use Rattle.qtt_base.specs.declared.place.GlobalId.{GlobalId}
use Rattle.qtt_term.specs.Term.{Term, var}
use Rattle.qtt_term.specs.Substitution.{ren, sub, lift, inst, Below, Closed}
use Rattle.qtt_term.specs.Signature.{Env}
use Rattle.qtt_term.specs.Contraction.{Step, BodiesClosed}
use Rattle.qtt_term.specs.Value.{Value}
use Rattle.qtt_term.specs.FullStep.{Outcome, full_step}
use Rattle.qtt_term.specs.FullRun.{tape_list, full}

pub record SubstitutionLaws : Type 0 where
  pub identity : (t : Term) → sub var t ≡ t
  pub composition : (σ τ : ℕ → Term) (t : Term) → sub σ (sub τ t) ≡ sub (λ i. sub σ (τ i)) t
  pub renaming : (ρ : ℕ → ℕ) (t : Term) → ren ρ t ≡ sub (λ i. var (ρ i)) t
  pub before_renaming : (σ : ℕ → Term) (ρ : ℕ → ℕ) (t : Term) → sub σ (ren ρ t) ≡ sub (λ i. σ (ρ i)) t
  pub after_renaming : (ρ : ℕ → ℕ) (σ : ℕ → Term) (t : Term) → ren ρ (sub σ t) ≡ sub (λ i. ren ρ (σ i)) t
  pub under_one_more : (σ : ℕ → Term) (t : Term) → sub (lift σ) (ren suc t) ≡ ren suc (sub σ t)
  pub instantiation : (σ : ℕ → Term) (b a : Term) → sub σ (inst b a) ≡ inst (sub (lift σ) b) (sub σ a)
  pub not_mentioned : (a t : Term) → inst (ren suc t) a ≡ t
  pub closed_terms : (t : Term) → Closed t → (σ : ℕ → Term) → sub σ t ≡ t

-- a value has no step, and a term that has none, does not trap and is not stuck is a value
abbrev pub ValuesAreKept : Type 0
ValuesAreKept = (E : Env) (t : Term) → Value E t ↔ (full_step E t ≡ Outcome.value)

-- a full step is a contraction
abbrev pub FullStepsContract : Type 0
FullStepsContract = (E : Env) (t s : Term) → full_step E t ≡ Outcome.step s → Step E t s

-- a contraction anywhere brings no variable into a term
abbrev pub StepsKeepClosed : Type 0
StepsKeepClosed = (E : Env) → BodiesClosed E → (n : ℕ) (t s : Term) → Step E t s → Below n t → Below n s

-- the tapes of a run are those that its events tell of, after a trap too
abbrev pub TapesAreOfEvents : Type 0
TapesAreOfEvents = (E : Env) (n : ℕ) (main : GlobalId) (input : List ℕ) →
    tape_list [] (full n E main input).last.events ≡ (full n E main input).last.tapes
