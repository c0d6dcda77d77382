-- What a call says that answers a list of questions within a budget: its answer, the premise that is false, or the
-- question that is spent.
use Rattle.std.specs.Prelude.{◌≡◌, ℕ, Option, Some, None, Result, MatchResult}
use Rattle.qtt_term.specs.Signature.{Env}
use Rattle.qtt_term.specs.Ask.{Question, Ending, within}
use Rattle.qtt_unify.specs.View.{question}
use Rattle.qtt_rules.specs.declared.detail.Detail.{Detail}
use Rattle.qtt_rules.specs.declared.detail.Detail.TheVariants as detail
use Rattle.qtt_rules.specs.declared.errors.ElabError.{ElabError}
use Rattle.qtt_rules.specs.declared.errors.ElabError.TheVariants as error
use Rattle.qtt_rules.specs.Refusal.{Cause, Place, at, refused}
use Rattle.qtt_rules.specs.View.{cause}
use Rattle.qtt_rules.specs.Asks.{Asks}

-- what a refusal keeps: what a false premise leaves, or the contractions of each question and the one that is spent
pub data Kept : Type 0 where
  premise : Cause → Kept
  question_of : ℕ → Question → Kept
  nothing : Kept

abbrev pub of_cause : Option Cause → Kept
of_cause None = Kept.nothing
of_cause (Some c) = Kept.premise c

abbrev pub kept : Detail → Kept
kept (detail.BudgetSpent b q) = Kept.question_of b (question q)
kept d = of_cause (cause d)

-- within n contractions it ends with this answer
pub record Reaches (E : Env) (n : ℕ) {A : Type 0} (m : Asks A) (a : A) : Type 0 where
  pub is : within E n m ≡ Ending.ok a

-- within n contractions it ends with this false premise
pub record Fails (E : Env) (n : ℕ) {A : Type 0} (m : Asks A) (c : Cause) (p : Place) : Type 0 where
  pub is : within E n m ≡ Ending.fails (refused c p)

-- within n contractions it ends with this question, which is spent
pub record Spends (E : Env) (n : ℕ) {A : Type 0} (m : Asks A) (b : ℕ) (p : Place) (q : Question) : Type 0 where
  pub budget : b ≡ n
  pub is : within E n m ≡ Ending.spent p q

-- it ends so at this place
abbrev pub Tells : Env → ℕ → {A : Type 0} → Asks A → Place → Kept → Type 0
Tells E n m p (Kept.premise c) = Fails E n m c p
Tells E n m p (Kept.question_of b q) = Spends E n m b p q
Tells E n m p Kept.nothing = ⊥

-- it ends as a refusal says; want of memory says nothing
abbrev pub Refuses : Env → ℕ → {A : Type 0} → Asks A → ElabError → Type 0
Refuses E n m (error.Refused d s r k) = Tells E n m (at s r k) (kept d)
Refuses E n m error.Memory = Unit {0}

-- a call answers as the list of questions ends
abbrev pub Gives : Env → ℕ → {A X : Type 0} → Asks A → (X → A) → Result X ElabError → Type 0
Gives E n m view result = MatchResult result (λ x. Reaches E n m (view x)) (λ e. Refuses E n m e)
