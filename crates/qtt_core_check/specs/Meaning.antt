-- What the answers of the public call say.
use Rattle.std.specs.Prelude.{ℕ, List, Result, IfOk, IfErr}
use Rattle.qtt_usage.specs.declared.mult.Mult.{Mult}
use Rattle.qtt_usage.specs.Uses.{Use}
use Rattle.qtt_term.specs.declared.term.Term as code
use Rattle.qtt_term.specs.Term.{Term}
use Rattle.qtt_term.specs.Signature.{Env}
use Rattle.qtt_term.specs.Judgement.{Part, Ctx}
use Rattle.qtt_term.specs.Accepted.{Accepts}
use Rattle.qtt_term.specs.Ask.{Question}
use Rattle.qtt_term.specs.Infer.{Inferred, inferred, infer}
use Rattle.qtt_term.specs.View.{term}
use Rattle.qtt_term.specs.FirstSpent.{FirstSpent}
use Rattle.qtt_core_check.specs.WithUses.{AcceptsUses, HasUses}
use Rattle.qtt_core_check.specs.Seen.{question, Gives}
use Rattle.qtt_core_check.specs.declared.refusal.CoreRefusal.{CoreRefusal}
use Rattle.qtt_core_check.specs.declared.refusal.CoreRefusal.TheVariants as refusal

-- a type, and the uses of variables
abbrev pub typed_as : code.Term × List Mult → Inferred
typed_as r = inferred (term r.0) r.1

-- a type and uses are so, by the judgement that accepts and by the core judgement
abbrev pub IsSo : Env → Part → Ctx → Term → Inferred → Type 0
IsSo E p Γ t j = AcceptsUses E p Γ t j.type j.uses × HasUses E p Γ t j.type j.uses

-- with no type and no use is the term accepted
abbrev pub IsNotAccepted : Env → Part → Ctx → Term → Type 0
IsNotAccepted E p Γ t = (A : Term) (u : Use) → Accepts E p Γ t A u → ⊥

-- this holds, where the refusal is a premise that fails
abbrev pub WhereFails : CoreRefusal → Type 0 → Type 0
WhereFails (refusal.Fails r k) X = X
WhereFails _ X = Unit {0}

-- this holds of the question, where the refusal is one that is spent
abbrev pub WhereSpent : CoreRefusal → (Question → Type 0) → Type 0
WhereSpent (refusal.Spent q) P = P (question q)
WhereSpent _ P = Unit {0}

-- the call answers as the judgement of this term ends within n contractions for each question: its type and uses
-- are so, what fails is not accepted, and what is spent is the first question that is
pub record Infers (E : Env) (n : ℕ) (p : Part) (Γ : Ctx) (t : Term)
    (result : Result (code.Term × List Mult) CoreRefusal) : Type 0 where
  pub gives : Gives E n (infer E p Γ t) typed_as result
  pub sound : IfOk result (λ r. IsSo E p Γ t (typed_as r))
  pub failed : IfErr result (λ e. WhereFails e (IsNotAccepted E p Γ t))
  pub spent : IfErr result (λ e. WhereSpent e (λ q. FirstSpent E n (infer E p Γ t) tt q))
