-- How one list of questions and then another end within a budget, as a call answers.
use Rattle.std.proofs.Common.{◌≡◌, ℕ, Result, Ok, Err, IsErrAnd, refl, ap, subst, sym, ◌∙◌}
use Rattle.qtt_term.specs.Term.{Term}
use Rattle.qtt_term.specs.Signature.{Env}
use Rattle.qtt_term.specs.Question as question
use Rattle.qtt_term.specs.Reading as reading
use Rattle.qtt_term.specs.Ask.{Ask, ◌>>=◌, Question, Ending, within, on_head, on_answer}
use Rattle.qtt_unify.specs.declared.error.UnifyError.{UnifyError}
use Rattle.qtt_unify.specs.declared.error.UnifyError.TheVariants as error
use Rattle.qtt_unify.specs.View.{Asks, Reaches, Refuses, Gives}

abbrev pub onward : {F P A B : Type 0} → Ending F P A → (A → Ending F P B) → Ending F P B
onward (Ending.ok a) k = k a
onward (Ending.fails f) k = Ending.fails f
onward (Ending.spent p q) k = Ending.spent p q

on_head-onward : {F P A B : Type 0} (H : question.Head) (f : Term → Ending F P A) (g : Term → Ending F P B)
    (p : P) (q : Question) (k : A → Ending F P B) →
    ((h : Term) → g h ≡ onward (f h) k) → on_head H g (Ending.spent p q) ≡ onward (on_head H f (Ending.spent p q)) k
unfolding on_head
on_head-onward (question.Head.done h made) f g p q k same = same h
on_head-onward question.Head.spent f g p q k same = refl

on_answer-onward : {F P A B : Type 0} (a : question.Answer) (m w : Ending F P A) (m' w' : Ending F P B) (p : P)
    (q : Question) (k : A → Ending F P B) →
    m' ≡ onward m k → w' ≡ onward w k →
    on_answer a m' w' (Ending.spent p q) ≡ onward (on_answer a m w (Ending.spent p q)) k
unfolding on_answer
on_answer-onward question.Answer.equal m w m' w' p q k d e = d
on_answer-onward (question.Answer.different path) m w m' w' p q k d e = e
on_answer-onward question.Answer.spent m w m' w' p q k d e = refl

pub within-then : {F P A B : Type 0} (E : Env) (n : ℕ) (m : Ask F P A) (k : A → Ask F P B) →
    within E n (m >>= k) ≡ onward (within E n m) (λ a. within E n (k a))
unfolding within ◌>>=◌
within-then E n (Ask.done a) k = refl
within-then E n (Ask.fail f) k = refl
within-then E n (Ask.head p d t g) k =
    on_head-onward (question.head E n t) (λ h. within E n (g h)) (λ h. within E n (g h >>= k)) p
    (Question.head_of d t) (λ a. within E n (k a)) (λ h. within-then E n (g h) k)
within-then E n (Ask.read p d t g) k =
    on_head-onward (reading.read E n t) (λ h. within E n (g h)) (λ h. within E n (g h >>= k)) p
    (Question.head_of d t) (λ a. within E n (k a)) (λ h. within-then E n (g h) k)
within-then E n (Ask.compare p d t s m w) k =
    on_answer-onward (question.compare E n t s) (within E n m) (within E n w) (within E n (m >>= k))
    (within E n (w >>= k)) p (Question.compared d t s) (λ a. within E n (k a))
    (within-then E n m k) (within-then E n w k)

onto : (E : Env) (n : ℕ) {A B : Type 0} (m : Asks A) (k : A → Asks B) (e : Ending ⊥ (Unit {0}) A) →
    within E n m ≡ e → within E n (m >>= k) ≡ onward e (λ a. within E n (k a))
onto E n m k e h = within-then E n m k ∙ ap (λ x. onward x (λ a. within E n (k a))) h

pub on_done : {E : Env} {n : ℕ} {A : Type 0} {a : A} → Reaches E n (Ask.done a) a
unfolding within
on_done = record { is = refl }

pub on : {E : Env} {n : ℕ} {A B : Type 0} {m : Asks A} (k : A → Asks B) {a : A} {b : B} → Reaches E n m a →
    Reaches E n (k a) b → Reaches E n (m >>= k) b
on {m = m} k h r = record { is = onto _ _ m k _ h.is ∙ r.is }

-- a refusal of a part is that of the whole
pub here : (E : Env) (n : ℕ) {A B : Type 0} (m : Asks A) (k : A → Asks B) (e : UnifyError) → Refuses E n m e →
    Refuses E n (m >>= k) e
here E n m k (error.Spent q) h = record { is = onto _ _ m k _ h.is }
here E n m k error.Memory h = tt

pub later : (E : Env) (n : ℕ) {A B : Type 0} (m : Asks A) (k : A → Asks B) (e : UnifyError) {a : A} →
    Reaches E n m a → Refuses E n (k a) e → Refuses E n (m >>= k) e
later E n m k (error.Spent q) h f = record { is = onto _ _ m k _ h.is ∙ f.is }
later E n m k error.Memory h f = tt

-- the refusal that a question mark passes on
pub passed : (E : Env) (n : ℕ) {A X : Type 0} (m : Asks A) (view : X → A) (r : Result X UnifyError) (e : UnifyError) →
    IsErrAnd r (λ y. y ≡ e) → Refuses E n m e → Gives E n m view r
passed E n m view (Ok x) e h f = absurd h
passed E n m view (Err y) e h f = subst (λ z. Refuses E n m z) (sym h) f

-- an answer that is the same
pub reached : {E : Env} {n : ℕ} {A : Type 0} {m : Asks A} {a b : A} → Reaches E n m a → a ≡ b → Reaches E n m b
reached {E} {n} {m = m} h e = subst (λ x. Reaches E n m x) e h

-- the last call's answer is that of the whole
pub tail : (E : Env) (n : ℕ) {A B X : Type 0} (m : Asks A) (k : A → Asks B) (view : X → B)
    (r : Result X UnifyError) {a : A} →
    Reaches E n m a → Gives E n (k a) view r → Gives E n (m >>= k) view r
tail E n m k view (Ok x) h f = on k h f
tail E n m k view (Err e) h f = later E n m k e h f

-- of lists that are the same
pub given_as : (E : Env) (n : ℕ) {A X : Type 0} (m l : Asks A) (view : X → A) (r : Result X UnifyError) → m ≡ l →
    Gives E n l view r → Gives E n m view r
given_as E n m l view r e h = subst (λ x. Gives E n x view r) (sym e) h
