-- The laws that the functions of this crate ensure.
use Rattle.std.specs.Prelude.{◌≡◌, ◌↔◌, ℕ, ◌≤◌, true}
use Rattle.qtt_term.specs.Signature.{Env}
use Rattle.qtt_usage.specs.Usage.{usage_at, use_of}
use Rattle.qtt_term.specs.Term.{Term}
use Rattle.qtt_usage.specs.Mult.{𝟘}
use Rattle.qtt_usage.specs.Uses.{Key, Use}
use Rattle.qtt_term.specs.Contraction.{Conv}
use Rattle.qtt_term.specs.Judgement.{KeyIn, InScope, Part, Ctx, InRun, Typed}
use Rattle.qtt_term.specs.Accepted.{is_dead, Accepts}
use Rattle.qtt_term.specs.Environment.{NoTape}
use Rattle.qtt_term.specs.Ask.{Question, Ending, Ends, within, NoReading}
use Rattle.qtt_term.specs.Infer.{Premise, Asks, Inferred, infer}
use Rattle.qtt_core_check.specs.WithUses.{AcceptsUses, HasUses}
use Rattle.qtt_core_check.specs.Trapless.{NoTrap}
use Rattle.qtt_core_check.specs.SmallSorts.{SmallSorts}
use Rattle.qtt_term.specs.FirstSpent.{FirstSpent, Says, IsSpent}

abbrev pub Inference : Type 0
Inference = Ending Premise (Unit {0}) Inferred

-- an answer or a false premise within a budget is one without, and a question is spent exactly where it is the
-- first
pub record EndingsAreSo (E : Env) : Type 0 where
  pub says : (n : ℕ) (m : Asks Inferred) → Says E n m (within E n m)
  pub spent : (n : ℕ) (m : Asks Inferred) (p : Unit {0}) (q : Question) → FirstSpent E n m p q →
      within E n m ≡ Ending.spent p q

-- so accepted and refused exclude one another
abbrev pub OneEnding : Env → Type 0
OneEnding E = (m : Asks Inferred) (e r : Inference) → Ends E m e → Ends E m r → e ≡ r

abbrev pub LargerBudgetsKeepEndings : Env → Type 0
LargerBudgetsKeepEndings E = (n k : ℕ) (m : Asks Inferred) → n ≤ k → (IsSpent (within E n m) → ⊥) →
    within E k m ≡ within E n m

-- heads and comparisons alone are asked for
abbrev pub AsksForNoReading : Env → Type 0
AsksForNoReading E = (p : Part) (Γ : Ctx) (t : Term) → NoReading (infer E p Γ t)

-- what is inferred for a term is so: its type, and the uses of variables. Lists tell nothing of tapes; a term in
-- which none stands uses none
pub record InferIsSound (E : Env) : Type 0 where
  pub accepts_uses : (p : Part) (Γ : Ctx) (t : Term) (j : Inferred) → Ends E (infer E p Γ t) (Ending.ok j) →
      AcceptsUses E p Γ t j.type j.uses
  pub has_uses : (p : Part) (Γ : Ctx) (t : Term) (j : Inferred) → Ends E (infer E p Γ t) (Ending.ok j) →
      HasUses E p Γ t j.type j.uses
  pub typed : (p : Part) (Γ : Ctx) (t : Term) (j : Inferred) → NoTape t → Ends E (infer E p Γ t) (Ending.ok j) →
      Typed E p Γ t j.type (use_of j.uses)

-- what is accepted is typed, and what is dead then uses nothing. Nothing is lost where no choice was to be made:
-- a typed term is accepted where its Sorts are small and, in the run part, no Trap stands in it
pub record AcceptedIsTyped (E : Env) : Type 0 where
  pub typed : (p : Part) (Γ : Ctx) (t A : Term) (u : Use) → Accepts E p Γ t A u → Typed E p Γ t A u
  pub dead : (p : Part) (Γ : Ctx) (t A : Term) (u : Use) → is_dead t ≡ true → Accepts E p Γ t A u → (x : Key) →
      KeyIn Γ x → u x ≡ 𝟘
  pub accepted : (p : Part) (Γ : Ctx) (t A : Term) (u : Use) → Typed E p Γ t A u → SmallSorts t → InRun p (NoTrap t) →
      Accepts E p Γ t A u

-- a term has one type up to conversion, in whatever part it is judged; and one use in the run part, where it is
-- accepted, and where no Trap stands in it
pub record OneTypeAndUse (E : Env) : Type 0 where
  pub type : (p r : Part) (Γ : Ctx) (t A B : Term) (u w : Use) → Typed E p Γ t A u → Typed E r Γ t B w → Conv E A B
  pub accepted_uses : (Γ : Ctx) (t A B : Term) (u w : Use) → Accepts E Part.run Γ t A u → Accepts E Part.run Γ t B w →
      (x : Key) → KeyIn Γ x → u x ≡ w x
  pub uses : (Γ : Ctx) (t A B : Term) (u w : Use) → NoTrap t → Typed E Part.run Γ t A u → Typed E Part.run Γ t B w →
      (x : Key) → KeyIn Γ x → u x ≡ w x

-- ends with this type up to conversion, and this use of the context's variables
abbrev pub Reports : Env → Ctx → Term → Use → Inference → Type 0
Reports E Γ A u (Ending.ok j) = Conv E j.type A × ((i : ℕ) → InScope Γ i → u (Key.v i) ≡ usage_at j.uses i)
Reports E Γ A u (Ending.fails f) = ⊥
Reports E Γ A u (Ending.spent p q) = ⊥

-- what fails is not accepted: wherever the judgement of an accepted term ends, it ends with its type and its use.
-- A typed term whose Sorts are small is accepted where no Trap stands in it; in the run part a Trap's use is
-- chosen, and a derivation may choose one that none of its parts has
pub record FailuresAreSo (E : Env) : Type 0 where
  pub refused : (p : Part) (Γ : Ctx) (t : Term) (f : Premise) (j : Inferred) →
      Ends E (infer E p Γ t) (Ending.fails f) → Ends E (infer E p Γ t) (Ending.ok j) → ⊥
  pub accepted : (p : Part) (Γ : Ctx) (t A : Term) (u : Use) → Accepts E p Γ t A u → (e : Inference) →
      Ends E (infer E p Γ t) e → Reports E Γ A u e
  pub typed : (p : Part) (Γ : Ctx) (t A : Term) (u : Use) → Typed E p Γ t A u → SmallSorts t → InRun p (NoTrap t) →
      (e : Inference) →
      Ends E (infer E p Γ t) e → Reports E Γ A u e

-- inferred without a bound, with this type up to conversion and with this use
pub record IsInferred (E : Env) (p : Part) (Γ : Ctx) (t A : Term) (u : Use) : Type 0 where
  pub inferred : Inferred
  pub ends : Ends E (infer E p Γ t) (Ending.ok inferred)
  pub type : Conv E inferred.type A
  pub uses : (x : Key) → KeyIn Γ x → u x ≡ use_of inferred.uses x

-- the judgement accepts exactly what has a derivation: what it infers has one, with its type and its uses of
-- variables; whatever has one it infers, so that each question on the way has its answer, with the type of the
-- derivation up to conversion and its use. Where no tape stands in a term, the one is the other
pub record AcceptedIsInferred (E : Env) : Type 0 where
  pub derived : (p : Part) (Γ : Ctx) (t : Term) (j : Inferred) → Ends E (infer E p Γ t) (Ending.ok j) →
      AcceptsUses E p Γ t j.type j.uses
  pub inferred : (p : Part) (Γ : Ctx) (t A : Term) (u : Use) → Accepts E p Γ t A u →
      (j : Inferred) × Ends E (infer E p Γ t) (Ending.ok j) × Reports E Γ A u (Ending.ok j)
  pub exactly : (p : Part) (Γ : Ctx) (t A : Term) (u : Use) → NoTape t → Accepts E p Γ t A u ↔ IsInferred E p Γ t A u
