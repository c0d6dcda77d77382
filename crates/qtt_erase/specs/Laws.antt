-- The law of erasure: an erased term takes the steps of its term, one for one.
use Rattle.std.specs.Prelude.{◌≡◌, ◌≢◌, []}
use Rattle.qtt_term.specs.Term.{Term}
use Rattle.qtt_term.specs.Signature.{Env}
use Rattle.qtt_term.specs.FullStep as full
use Rattle.qtt_erase.specs.Step.{Outcome}
use Rattle.qtt_erase.specs.Lean.{Lean, lean_step}
use Rattle.qtt_erase.specs.Erasure.{erase, erased_bodies}
use Rattle.qtt_erase.specs.ErasedUse.{NoErasedUse, Erasable}

-- what the erasure of a closed term does next
abbrev pub erased_step : Env → Term → Outcome Lean
erased_step E t = lean_step (erased_bodies E) (erase E [] t)

-- for terms without erased uses, a property that full steps keep: a value gives a value, a step exactly one step,
-- a trap the same trap. What is stuck gives no value; where it is stuck only at what erasure forgets, as an
-- application at another multiplicity than its function's, its erasure may go on
pub record InStep (E : Env) : Type 0 where
  pub values : (t : Term) → NoErasedUse E [] t → full.full_step E t ≡ full.Outcome.value →
      erased_step E t ≡ Outcome.value
  pub steps : (t s : Term) → NoErasedUse E [] t → full.full_step E t ≡ full.Outcome.step s →
      erased_step E t ≡ Outcome.step (erase E [] s)
  pub traps : (t : Term) (k : full.Cause) → NoErasedUse E [] t → full.full_step E t ≡ full.Outcome.trap k →
      erased_step E t ≡ Outcome.trap k
  pub sticks : (t : Term) → NoErasedUse E [] t → full.full_step E t ≡ full.Outcome.stuck →
      erased_step E t ≢ Outcome.value
  pub kept : (t s : Term) → NoErasedUse E [] t → full.full_step E t ≡ full.Outcome.step s → NoErasedUse E [] s

abbrev pub ErasedTermsRunInStep : Type 0
ErasedTermsRunInStep = (E : Env) → Erasable E → InStep E
