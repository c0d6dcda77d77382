-- What a judgement asks, in order, and how it ends: a judgement's table of premises is one such list of
-- questions, from which come both its answer within a budget and its meaning without one.
use Rattle.std.specs.Prelude.{◌≡◌, ℕ, List}
use Rattle.qtt_term.specs.Term.{Term}
use Rattle.qtt_term.specs.Signature.{Env}
use Rattle.qtt_term.specs.Contraction.{Conv}
use Rattle.qtt_term.specs.Question as question
use Rattle.qtt_term.specs.Reading as reading

-- F is what a false premise leaves, P the place of a question, A the answer.
-- head n t asks for the head of t, which stands under n variables, and goes on with it;
-- read n t asks for the reading of t, an index, and goes on with it;
-- compare n t s asks whether t and s compare Equal, and goes on with one branch where they do, and with the other
-- where they differ
pub data Ask (F P A : Type 0) : Type 0 where
  done : A → Ask F P A
  fail : F → Ask F P A
  head : P → ℕ → Term → (Term → Ask F P A) → Ask F P A
  read : P → ℕ → Term → (Term → Ask F P A) → Ask F P A
  compare : P → ℕ → Term → Term → Ask F P A → Ask F P A → Ask F P A

infixl 10 ◌>>=◌
-- the one, and then the other with its answer
unfoldable pub ◌>>=◌ : {F P A B : Type 0} → Ask F P A → (A → Ask F P B) → Ask F P B
Ask.done a >>= k = k a
Ask.fail f >>= k = Ask.fail f
Ask.head p n t g >>= k = Ask.head p n t (λ h. g h >>= k)
Ask.read p n t g >>= k = Ask.read p n t (λ r. g r >>= k)
Ask.compare p n t s m w >>= k = Ask.compare p n t s (m >>= k) (w >>= k)

-- a judgement each of whose questions is asked at one place: what follows its answer, and what follows a false premise
unfoldable pub asked_at : {F P G Q A B : Type 0} → Q → Ask F P A → (A → Ask G Q B) → (F → Ask G Q B) → Ask G Q B
asked_at q (Ask.done a) next otherwise = next a
asked_at q (Ask.fail f) next otherwise = otherwise f
asked_at q (Ask.head p n t g) next otherwise = Ask.head q n t (λ h. asked_at q (g h) next otherwise)
asked_at q (Ask.read p n t g) next otherwise = Ask.read q n t (λ r. asked_at q (g r) next otherwise)
asked_at q (Ask.compare p n t s m w) next otherwise =
    Ask.compare q n t s (asked_at q m next otherwise) (asked_at q w next otherwise)

-- a question, with the number of variables of the context in which its terms stand
pub data Question : Type 0 where
  head_of : ℕ → Term → Question
  compared : ℕ → Term → Term → Question

-- an answer, a false premise, or the first question that is spent
pub data Ending (F P A : Type 0) : Type 0 where
  ok : A → Ending F P A
  fails : F → Ending F P A
  spent : P → Question → Ending F P A

unfoldable pub on_head : {F P A : Type 0} → question.Head → (Term → Ending F P A) → Ending F P A → Ending F P A
on_head (question.Head.done h made) next out = next h
on_head question.Head.spent next out = out

unfoldable pub on_answer : {F P A : Type 0} → question.Answer → Ending F P A → Ending F P A → Ending F P A →
    Ending F P A
on_answer question.Answer.equal same differ out = same
on_answer (question.Answer.different path) same differ out = differ
on_answer question.Answer.spent same differ out = out

-- the ending where each question has n contractions; a reading that is spent keeps the question for the head
unfoldable pub within : {F P A : Type 0} → Env → ℕ → Ask F P A → Ending F P A
within E n (Ask.done a) = Ending.ok a
within E n (Ask.fail f) = Ending.fails f
within E n (Ask.head p d t g) =
    on_head (question.head E n t) (λ h. within E n (g h)) (Ending.spent p (Question.head_of d t))
within E n (Ask.read p d t g) =
    on_head (reading.read E n t) (λ r. within E n (g r)) (Ending.spent p (Question.head_of d t))
within E n (Ask.compare p d t s m w) =
    on_answer (question.compare E n t s) (within E n m) (within E n w) (Ending.spent p (Question.compared d t s))

-- h is the head of t, after any number of contractions
pub record HeadIs (E : Env) (t h : Term) : Type 0 where
  pub bound : ℕ
  pub made : ℕ
  pub is : question.head E bound t ≡ question.Head.done h made

-- r is the reading of t, after any number of contractions
pub record ReadingIs (E : Env) (t r : Term) : Type 0 where
  pub bound : ℕ
  pub made : ℕ
  pub is : reading.read E bound t ≡ question.Head.done r made

-- some comparison of t and s finds a difference
pub record Differ (E : Env) (t s : Term) : Type 0 where
  pub bound : ℕ
  pub path : List ℕ
  pub is : question.compare E bound t s ≡ question.Answer.different path

-- the ending without a bound: heads are heads, readings are readings, and what compares Equal is convertible
pub data Ends (E : Env) {F P A : Type 0} : Ask F P A → Ending F P A → Type 0 where
  is_done : {a : A} → Ends E (Ask.done a) (Ending.ok a)
  has_failed : {f : F} → Ends E (Ask.fail f) (Ending.fails f)
  has_head : {p : P} {d : ℕ} {t h : Term} {g : Term → Ask F P A} {e : Ending F P A} →
      HeadIs E t h → Ends E (g h) e → Ends E (Ask.head p d t g) e
  has_reading : {p : P} {d : ℕ} {t r : Term} {g : Term → Ask F P A} {e : Ending F P A} →
      ReadingIs E t r → Ends E (g r) e → Ends E (Ask.read p d t g) e
  are_equal : {p : P} {d : ℕ} {t s : Term} {m w : Ask F P A} {e : Ending F P A} →
      Conv E t s → Ends E m e → Ends E (Ask.compare p d t s m w) e
  are_different : {p : P} {d : ℕ} {t s : Term} {m w : Ask F P A} {e : Ending F P A} →
      Differ E t s → Ends E w e → Ends E (Ask.compare p d t s m w) e

-- no reading is asked for
abbrev pub NoReading : {F P A : Type 0} → Ask F P A → Type 0
NoReading (Ask.done a) = Unit {0}
NoReading (Ask.fail f) = Unit {0}
NoReading (Ask.head p n t g) = (h : Term) → NoReading (g h)
NoReading (Ask.read p n t g) = ⊥
NoReading (Ask.compare p n t s m w) = NoReading m × NoReading w
