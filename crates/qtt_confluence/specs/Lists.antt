-- Laws of lists of questions, whatever a false premise leaves (F), wherever a question is asked (P) and whatever is
-- answered (A).
use Rattle.std.specs.Prelude.{◌≡◌, ℕ, ◌≤◌}
use Rattle.qtt_base.specs.declared.place.GlobalId.{GlobalId}
use Rattle.qtt_term.specs.Term.{Term}
use Rattle.qtt_term.specs.Signature.{Env}
use Rattle.qtt_term.specs.Contraction.{BodiesClosed, Conv}
use Rattle.qtt_term.specs.Question.{head, compare}
use Rattle.qtt_term.specs.Ask.{Ask, Question, Ending, Ends, NoReading}
use Rattle.qtt_term.specs.Ask as list
use Rattle.qtt_term.specs.FirstSpent.{FirstSpent, Says, IsSpent}

-- an answer or a false premise within a budget is one without, and a question is spent exactly where it is the first
pub record EndingsAreSo (F P A : Type 0) : Type 0 where
  pub says : (E : Env) (n : ℕ) (m : Ask F P A) → Says E n m (list.within E n m)
  pub spent : (E : Env) (n : ℕ) (m : Ask F P A) (p : P) (q : Question) → FirstSpent E n m p q →
      list.within E n m ≡ Ending.spent p q

-- so an answer and a false premise exclude one another
abbrev pub OneEnding : (F P A : Type 0) → Type 0
OneEnding F P A = (E : Env) → BodiesClosed E → (m : Ask F P A) (e r : Ending F P A) → Ends E m e → Ends E m r → e ≡ r

-- what is spent alone can change where the budget is larger
abbrev pub LargerBudgetsKeepEndings : (F P A : Type 0) → Type 0
LargerBudgetsKeepEndings F P A = (E : Env) (n k : ℕ) (m : Ask F P A) → n ≤ k → (IsSpent (list.within E n m) → ⊥) →
    list.within E k m ≡ list.within E n m

-- ---- environments with the same definitions
abbrev pub SameDefinitions : Env → Env → Type 0
SameDefinitions E D = (d : GlobalId) → E.definition d ≡ D.definition d

-- heads, comparisons and conversion are the same
pub record QuestionsReadDefinitions (E D : Env) : Type 0 where
  pub heads : (n : ℕ) (t : Term) → head E n t ≡ head D n t
  pub comparisons : (n : ℕ) (t s : Term) → compare E n t s ≡ compare D n t s
  pub conversion : (t s : Term) → Conv E t s → Conv D t s

-- a list that asks for no reading ends alike: a reading looks at families, whether they are plain
pub record ListsReadDefinitions (F P A : Type 0) (E D : Env) : Type 0 where
  pub within : (n : ℕ) (m : Ask F P A) → NoReading m → list.within E n m ≡ list.within D n m
  pub ends : (m : Ask F P A) (e : Ending F P A) → NoReading m → Ends E m e → Ends D m e
