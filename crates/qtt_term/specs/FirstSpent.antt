-- The first question of a list that is spent.
use Rattle.std.specs.Prelude.{◌≡◌, ℕ, List}
use Rattle.qtt_term.specs.Term.{Term}
use Rattle.qtt_term.specs.Signature.{Env}
use Rattle.qtt_term.specs.Question as question
use Rattle.qtt_term.specs.Reading as reading
use Rattle.qtt_term.specs.Ask.{Ask, Question, Ending, Ends}

-- the questions before it are answered within n contractions, and this one is not
pub data FirstSpent (E : Env) (n : ℕ) {F P A : Type 0} : Ask F P A → P → Question → Type 0 where
  at_head : {p : P} {d : ℕ} {t : Term} {g : Term → Ask F P A} →
      question.head E n t ≡ question.Head.spent → FirstSpent E n (Ask.head p d t g) p (Question.head_of d t)
  at_reading : {p : P} {d : ℕ} {t : Term} {g : Term → Ask F P A} →
      reading.read E n t ≡ question.Head.spent → FirstSpent E n (Ask.read p d t g) p (Question.head_of d t)
  at_compare : {p : P} {d : ℕ} {t s : Term} {m w : Ask F P A} →
      question.compare E n t s ≡ question.Answer.spent →
      FirstSpent E n (Ask.compare p d t s m w) p (Question.compared d t s)
  past_head : {p r : P} {d made : ℕ} {t h : Term} {g : Term → Ask F P A} {q : Question} →
      question.head E n t ≡ question.Head.done h made → FirstSpent E n (g h) r q → FirstSpent E n (Ask.head p d t g) r q
  past_reading : {p r : P} {d made : ℕ} {t h : Term} {g : Term → Ask F P A} {q : Question} →
      reading.read E n t ≡ question.Head.done h made → FirstSpent E n (g h) r q → FirstSpent E n (Ask.read p d t g) r q
  past_equal : {p r : P} {d : ℕ} {t s : Term} {m w : Ask F P A} {q : Question} →
      question.compare E n t s ≡ question.Answer.equal → FirstSpent E n m r q →
      FirstSpent E n (Ask.compare p d t s m w) r q
  past_different : {p r : P} {d : ℕ} {t s : Term} {m w : Ask F P A} {q : Question} {path : List ℕ} →
      question.compare E n t s ≡ question.Answer.different path → FirstSpent E n w r q →
      FirstSpent E n (Ask.compare p d t s m w) r q

-- what an ending within a budget says: the same ending without one, or the first question that is spent
abbrev pub Says : Env → ℕ → {F P A : Type 0} → Ask F P A → Ending F P A → Type 0
Says E n m (Ending.ok a) = Ends E m (Ending.ok a)
Says E n m (Ending.fails f) = Ends E m (Ending.fails f)
Says E n m (Ending.spent p q) = FirstSpent E n m p q

abbrev pub IsSpent : {F P A : Type 0} → Ending F P A → Type 0
IsSpent (Ending.ok a) = ⊥
IsSpent (Ending.fails f) = ⊥
IsSpent (Ending.spent p q) = Unit {0}
