-- A judgement that is asked at one place of another, within a budget; and the answers of the core judgement's call.
use Rattle.std.proofs.Common.{◌≡◌, ℕ, refl, ap, ◌∙◌}
use Rattle.qtt_term.specs.Term.{Term}
use Rattle.qtt_term.specs.Signature.{Env}
use Rattle.qtt_term.specs.Question as question
use Rattle.qtt_term.specs.Reading as reading
use Rattle.qtt_term.specs.Ask.{Ask, Question, Ending, within, on_head, on_answer, asked_at}
use Rattle.qtt_rules.specs.Refusal.{Place, Refusal}
use Rattle.qtt_rules.specs.Asks.{Asks}

abbrev pub beside : {F Q A B : Type 0} → Place → Ending F Q A → (A → Ending Refusal Place B) →
    (F → Ending Refusal Place B) → Ending Refusal Place B
beside p (Ending.ok a) next otherwise = next a
beside p (Ending.fails f) next otherwise = otherwise f
beside p (Ending.spent x q) next otherwise = Ending.spent p q

head-beside : {F Q A B : Type 0} (H : question.Head) (f : Term → Ending F Q A) (g : Term → Ending Refusal Place B)
    (x : Q) (p : Place) (q : Question) (k : A → Ending Refusal Place B) (o : F → Ending Refusal Place B) →
    ((h : Term) → g h ≡ beside p (f h) k o) →
    on_head H g (Ending.spent p q) ≡ beside p (on_head H f (Ending.spent x q)) k o
unfolding on_head
head-beside (question.Head.done h made) f g x p q k o same = same h
head-beside question.Head.spent f g x p q k o same = refl

answer-beside : {F Q A B : Type 0} (a : question.Answer) (m w : Ending F Q A) (m' w' : Ending Refusal Place B)
    (x : Q) (p : Place) (q : Question) (k : A → Ending Refusal Place B) (o : F → Ending Refusal Place B) →
    m' ≡ beside p m k o → w' ≡ beside p w k o →
    on_answer a m' w' (Ending.spent p q) ≡ beside p (on_answer a m w (Ending.spent x q)) k o
unfolding on_answer
answer-beside question.Answer.equal m w m' w' x p q k o d e = d
answer-beside (question.Answer.different path) m w m' w' x p q k o d e = e
answer-beside question.Answer.spent m w m' w' x p q k o d e = refl

pub within-beside : {F Q A B : Type 0} (E : Env) (n : ℕ) (p : Place) (m : Ask F Q A) (k : A → Asks B)
    (o : F → Asks B) →
    within E n (asked_at p m k o) ≡ beside p (within E n m) (λ a. within E n (k a)) (λ f. within E n (o f))
unfolding within asked_at
within-beside E n p (Ask.done a) k o = refl
within-beside E n p (Ask.fail f) k o = refl
within-beside E n p (Ask.head x d t g) k o =
    head-beside (question.head E n t) (λ h. within E n (g h)) (λ h. within E n (asked_at p (g h) k o)) x p
    (Question.head_of d t) (λ a. within E n (k a)) (λ f. within E n (o f)) (λ h. within-beside E n p (g h) k o)
within-beside E n p (Ask.read x d t g) k o =
    head-beside (reading.read E n t) (λ h. within E n (g h)) (λ h. within E n (asked_at p (g h) k o)) x p
    (Question.head_of d t) (λ a. within E n (k a)) (λ f. within E n (o f)) (λ h. within-beside E n p (g h) k o)
within-beside E n p (Ask.compare x d t s m w) k o =
    answer-beside (question.compare E n t s) (within E n m) (within E n w) (within E n (asked_at p m k o))
    (within E n (asked_at p w k o)) x p (Question.compared d t s) (λ a. within E n (k a)) (λ f. within E n (o f))
    (within-beside E n p m k o) (within-beside E n p w k o)

pub beside-ending : {F Q A B : Type 0} (E : Env) (n : ℕ) (p : Place) (m : Ask F Q A) (k : A → Asks B)
    (o : F → Asks B) (e : Ending F Q A) → within E n m ≡ e →
    within E n (asked_at p m k o) ≡ beside p e (λ a. within E n (k a)) (λ f. within E n (o f))
beside-ending E n p m k o e h =
    within-beside E n p m k o ∙ ap (λ x. beside p x (λ a. within E n (k a)) (λ f. within E n (o f))) h
