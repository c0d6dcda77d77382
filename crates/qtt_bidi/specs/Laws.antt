-- The laws that the functions of this crate ensure.
use Rattle.std.specs.Prelude.{◌≡◌, ◌↔◌, ℕ}
use Rattle.qtt_usage.specs.Mult.{𝟘}
use Rattle.qtt_usage.specs.Usage.{usage_at}
use Rattle.qtt_syntax.specs.Tree.{Tree}
use Rattle.qtt_term.specs.Term.{Term}
use Rattle.qtt_term.specs.Signature.{Env}
use Rattle.qtt_term.specs.Contraction.{BodiesClosed}
use Rattle.qtt_term.specs.Judgement.{Part, mult_at}
use Rattle.qtt_term.specs.Environment.{ResultsCounted}
use Rattle.qtt_term.specs.Ask.{Question, Ending, Ends, within, NoReading}
use Rattle.qtt_term.specs.FirstSpent.{FirstSpent}
use Rattle.qtt_term.specs.Entries.{Entries, env}
use Rattle.qtt_term.specs.Scope.{Scope}
use Rattle.qtt_rules.specs.Refusal.{Place, Refusal}
use Rattle.qtt_rules.specs.Judged.{Judged, Mode}
use Rattle.qtt_confluence.specs.Lists.{SameDefinitions}
use Rattle.qtt_bidi.specs.Elaboration.{judge}
use Rattle.qtt_bidi.specs.Rules.{Elaborates}
use Rattle.qtt_bidi.specs.Holes.{NoHole}

-- without a bound the table of premises ends with an answer exactly where the rules derive it
abbrev pub ElaboratedIsDerived : Type 0
ElaboratedIsDerived = (G : Entries) (p : Part) (S : Scope) (m : Mode) (e : Tree) (j : Judged) →
    Ends (env G) (judge G p S m e) (Ending.ok j) ↔ Elaborates G p S m e j

-- heads and comparisons alone are asked for, and these read definitions alone: over environments with the same
-- definitions a list ends alike, with a bound and without one
pub record ElaborationAsksForNoReading : Type 0 where
  pub unread : (G : Entries) (p : Part) (S : Scope) (m : Mode) (e : Tree) → NoReading (judge G p S m e)
  pub alike_within : (E D : Env) → SameDefinitions E D → (n : ℕ) (G : Entries) (p : Part) (S : Scope) (m : Mode)
      (e : Tree) → within E n (judge G p S m e) ≡ within D n (judge G p S m e)
  pub alike : (E D : Env) → SameDefinitions E D → (G : Entries) (p : Part) (S : Scope) (m : Mode) (e : Tree)
      (r : Ending Refusal Place Judged) → Ends E (judge G p S m e) r → Ends D (judge G p S m e) r

-- what fails without a bound has no derivation: bodies have no free variables in any environment that is built
abbrev pub FailuresAreUnderived : Type 0
FailuresAreUnderived = (G : Entries) → BodiesClosed (env G) → (p : Part) (S : Scope) (m : Mode) (e : Tree)
    (r : Refusal) (j : Judged) → Ends (env G) (judge G p S m e) (Ending.fails r) → Elaborates G p S m e j → ⊥

-- what the table comes to where each question has n contractions: what it gives is derived, a premise that is false
-- is so without a bound, and what is spent is the first question that is
pub record BudgetsAnswerSo : Type 0 where
  pub derived : (G : Entries) (n : ℕ) (p : Part) (S : Scope) (m : Mode) (e : Tree) (j : Judged) →
      within (env G) n (judge G p S m e) ≡ Ending.ok j → Elaborates G p S m e j
  pub failed : (G : Entries) (n : ℕ) (p : Part) (S : Scope) (m : Mode) (e : Tree) (r : Refusal) →
      within (env G) n (judge G p S m e) ≡ Ending.fails r → Ends (env G) (judge G p S m e) (Ending.fails r)
  pub spent : (G : Entries) (n : ℕ) (p : Part) (S : Scope) (m : Mode) (e : Tree) (w : Place) (q : Question) →
      within (env G) n (judge G p S m e) ≡ Ending.spent w q → FirstSpent (env G) n (judge G p S m e) w q

-- what is checked has the given type
abbrev pub CheckedHasTheGivenType : Type 0
CheckedHasTheGivenType = (G : Entries) (p : Part) (S : Scope) (A : Term) (e : Tree) (j : Judged) →
    Elaborates G p S (Mode.check A) e j → j.type ≡ A

-- no hole occurs in what is derived
abbrev pub DerivedHasNoHole : Type 0
DerivedHasNoHole = (G : Entries) (p : Part) (S : Scope) (m : Mode) (e : Tree) (j : Judged) →
    Elaborates G p S m e j → NoHole e

-- what is declared 0 has no use in what is derived; results are counted in any environment that is built
abbrev pub ErasedIsUnused : Type 0
ErasedIsUnused = (G : Entries) → ResultsCounted (env G) → (p : Part) (S : Scope) (m : Mode) (e : Tree) (j : Judged) →
    Elaborates G p S m e j → (i : ℕ) → mult_at S.vars i ≡ 𝟘 → usage_at j.uses i ≡ 𝟘
