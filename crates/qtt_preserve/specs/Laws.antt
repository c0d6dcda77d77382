-- The laws that the functions of this crate ensure.
use Rattle.std.specs.Prelude.{◌≡◌, ◌≢◌, ℕ, true, List, [], ◌∷◌}
use Rattle.qtt_base.specs.declared.place.GlobalId.{GlobalId}
use Rattle.qtt_usage.specs.declared.mult.Mult.{Mult}
use Rattle.qtt_usage.specs.Mult.{𝟘, ◌⊕◌, ◌⊙◌}
use Rattle.qtt_usage.specs.Uses.{Key, Use, out}
use Rattle.qtt_term.specs.Term.{Term}
use Rattle.qtt_term.specs.Substitution.{sub, inst}
use Rattle.qtt_term.specs.Signature.{Family, Definition, Env, UnitTy}
use Rattle.qtt_term.specs.FullStep.{Cause, Outcome, full_step}
use Rattle.qtt_term.specs.FullRun.{Config, Verdict, Turn, turn, start, full}
use Rattle.qtt_term.specs.TapeDiscipline.{Disciplined, ClosedOnce}
use Rattle.qtt_term.specs.Judgement.{Ctx, InScope, mult_at, type_at, Part, under, InRun, AtMost, Typed}
use Rattle.qtt_term.specs.Environment.{IsMain, FamilyFormed, DefinitionFormed}
use Rattle.qtt_term.specs.Accepted.{is_dead}
use Rattle.qtt_preserve.specs.Within.{Has}
use Rattle.qtt_preserve.specs.Through.{through}
use Rattle.qtt_preserve.specs.Configuration.{open_use, Configured}
use Rattle.qtt_preserve.specs.Grows.{FamiliesStay, CasesIn}

-- a term with this type and at most this use
abbrev pub TypedWithin : Env → Part → Ctx → Term → Term → Use → Type 0
TypedWithin E p Γ t A u = (w : Use) × Typed E p Γ t A w × InRun p (AtMost Γ w u)

-- the judgement with a bound on the use is the exact one at some use within the bound
pub record UsesAreExact (E : Env) (p : Part) (Γ : Ctx) (t A : Term) (u : Use) : Type 0 where
  pub exact : Typed E p Γ t A u → Has E p Γ t A u
  pub bounded : Has E p Γ t A u → TypedWithin E p Γ t A u

-- a typed term whose variables are replaced by terms of their types: its use is what the uses of these terms
-- carry its use to
pub record SubstitutionWithUses (E : Env) : Type 0 where
  pub simultaneous : (p : Part) (Γ Δ : Ctx) (t A : Term) (u : Use) (σ : ℕ → Term) (M : ℕ → Use) → Typed E p Γ t A u →
      ((i : ℕ) → InScope Γ i → Typed E (under p (mult_at Γ i)) Δ (σ i) (sub σ (type_at Γ i)) (M i)) →
      TypedWithin E p Δ (sub σ t) (sub σ A) (through Γ M u)
  pub of_one : (p : Part) (Γ : Ctx) (q : Mult) (A b B a : Term) (u w : Use) → Typed E p ((q, A) ∷ Γ) b B u →
      Typed E (under p q) Γ a A w →
      TypedWithin E p Γ (inst b a) (inst B a) (λ x. out u x ⊕ u (Key.v 0) ⊙ w x)

-- a full step keeps the type, and the use after it is at most the use before
abbrev pub StepKeepsTypeAndUse : Env → Type 0
StepKeepsTypeAndUse E = (p : Part) (Γ : Ctx) (t s A : Term) (u : Use) → full_step E t ≡ Outcome.step s →
    Typed E p Γ t A u → TypedWithin E p Γ s A u

-- no closed term of the run part is stuck
abbrev pub StepsAreNeverStuck : Env → Type 0
StepsAreNeverStuck E = (t A : Term) (u : Use) → Typed E Part.run [] t A u → full_step E t ≢ Outcome.stuck

-- the verdict of a run that was not trapped
abbrev pub Untrapped : Verdict → Type 0
Untrapped v = (k : Cause) → v ≢ Verdict.trapped k

-- types, and that each open tape is used exactly once, are kept by each contraction of a run, and none is open
-- where it ends
pub record RunKeepsTapes (E : Env) : Type 0 where
  pub starts : (main : GlobalId) → IsMain E main → (input : List ℕ) → Configured E UnitTy (start main input)
  pub turns : (R : Term) (c d : Config) → Configured E R c → turn E c ≡ Turn.goes d → Configured E R d
  pub ends : (R : Term) (c : Config) → Configured E R c → turn E c ≡ Turn.halts Verdict.ended →
      (h : ℕ) → open_use c.tapes h ≡ 𝟘
  pub throughout : (main : GlobalId) → IsMain E main →
      (n : ℕ) (input : List ℕ) → Untrapped (full n E main input).verdict →
      Configured E UnitTy (full n E main input).last

-- the full run of a main is never stuck
abbrev pub NeverStuck : Env → Type 0
NeverStuck E = (main : GlobalId) → IsMain E main → (n : ℕ) (input : List ℕ) →
    (full n E main input).verdict ≢ Verdict.stuck

-- the events of every run of a main keep the discipline of tapes, and after a run that ended or trapped each
-- opened number is closed
pub record TapesClosedOnce (E : Env) (main : GlobalId) (n : ℕ) (input : List ℕ) : Type 0 where
  pub always : Disciplined (full n E main input).last.events
  pub ended : (full n E main input).verdict ≡ Verdict.ended → ClosedOnce (full n E main input).last.events
  pub trapped : (k : Cause) → (full n E main input).verdict ≡ Verdict.trapped k →
      ClosedOnce (full n E main input).last.events

-- a derivation stands in every larger environment where the families of its Cases are the same; so where no
-- constructors are added, every derivation does, and families and definitions stay well formed
pub record DerivationsGrow (D E : Env) : Type 0 where
  pub derivations : (p : Part) (Γ : Ctx) (t A : Term) (u : Use) → CasesIn (λ f. D.family f ≡ E.family f) t →
      Typed D p Γ t A u → Typed E p Γ t A u
  pub all_derivations : FamiliesStay D E → (p : Part) (Γ : Ctx) (t A : Term) (u : Use) → Typed D p Γ t A u →
      Typed E p Γ t A u
  pub families : FamiliesStay D E → (f : GlobalId) (F : Family) → FamilyFormed D f F → FamilyFormed E f F
  pub definitions : FamiliesStay D E → (d : Definition) → DefinitionFormed D d → DefinitionFormed E d

-- a Trap, and a function whose body is dead, may use anything in the run part
abbrev pub DeadTermsUseAnything : Env → Type 0
DeadTermsUseAnything E = (Γ : Ctx) (t A : Term) (u w : Use) → is_dead t ≡ true → Typed E Part.run Γ t A u →
    Typed E Part.run Γ t A w
