-- Endings of lists of questions, within a budget and without one.
use Rattle.std.proofs.Common.{◌≡◌, ℕ, ◌+◌, ◌≤◌, refl, subst, sym, ◌∙◌, arith}
use Rattle.qtt_term.specs.Term.{Term}
use Rattle.qtt_term.specs.Signature.{Env}
use Rattle.qtt_term.specs.Contraction.{BodiesClosed}
use Rattle.qtt_term.specs.Question as question
use Rattle.qtt_term.specs.Reading as reading
use Rattle.qtt_term.specs.Ask.{Ask, Question, Ending, Ends, HeadIs, within, on_head, on_answer}
use Rattle.qtt_term.specs.FirstSpent.{FirstSpent, Says, IsSpent}
use Rattle.qtt_term.proofs.Reading.{read-stays, one-reading}
use Rattle.qtt_confluence.proofs.Facts.{head_is_exact, count_alone_limits, equal_is_convertible, different_is_apart}

-- ---- what an ending within a budget says
head-says : {F P A : Type 0} (E : Env) (n : ℕ) (p : P) (d : ℕ) (t : Term) (g : Term → Ask F P A) (h : question.Head) →
    question.head E n t ≡ h →
    ((s : Term) → Says E n (g s) (within E n (g s))) →
    Says E n (Ask.head p d t g) (on_head h (λ s. within E n (g s)) (Ending.spent p (Question.head_of d t)))
unfolding on_head
head-says {F} {P} {A} E n p d t g (question.Head.done h made) e rest = through (within E n (g h)) (rest h)
  where
    through : (o : Ending F P A) → Says E n (g h) o → Says E n (Ask.head p d t g) o
    through (Ending.ok a) r = Ends.has_head (record { bound = n; made = made; is = e }) r
    through (Ending.fails f) r = Ends.has_head (record { bound = n; made = made; is = e }) r
    through (Ending.spent r q) s = FirstSpent.past_head e s
head-says E n p d t g question.Head.spent e rest = FirstSpent.at_head e

reading-says : {F P A : Type 0} (E : Env) (n : ℕ) (p : P) (d : ℕ) (t : Term) (g : Term → Ask F P A)
    (h : question.Head) → reading.read E n t ≡ h → ((s : Term) → Says E n (g s) (within E n (g s))) →
    Says E n (Ask.read p d t g) (on_head h (λ s. within E n (g s)) (Ending.spent p (Question.head_of d t)))
unfolding on_head
reading-says {F} {P} {A} E n p d t g (question.Head.done h made) e rest = through (within E n (g h)) (rest h)
  where
    through : (o : Ending F P A) → Says E n (g h) o → Says E n (Ask.read p d t g) o
    through (Ending.ok a) r = Ends.has_reading (record { bound = n; made = made; is = e }) r
    through (Ending.fails f) r = Ends.has_reading (record { bound = n; made = made; is = e }) r
    through (Ending.spent r q) s = FirstSpent.past_reading e s
reading-says E n p d t g question.Head.spent e rest = FirstSpent.at_reading e

compare-says : {F P A : Type 0} (E : Env) (n : ℕ) (p : P) (d : ℕ) (t s : Term) (m w : Ask F P A)
    (a : question.Answer) → question.compare E n t s ≡ a →
    Says E n m (within E n m) → Says E n w (within E n w) →
    Says E n (Ask.compare p d t s m w)
    (on_answer a (within E n m) (within E n w) (Ending.spent p (Question.compared d t s)))
unfolding on_answer
compare-says {F} {P} {A} E n p d t s m w question.Answer.equal e rm rw = through (within E n m) rm
  where
    through : (o : Ending F P A) → Says E n m o → Says E n (Ask.compare p d t s m w) o
    through (Ending.ok a) r = Ends.are_equal (equal_is_convertible E n t s e) r
    through (Ending.fails f) r = Ends.are_equal (equal_is_convertible E n t s e) r
    through (Ending.spent r q) x = FirstSpent.past_equal e x
compare-says {F} {P} {A} E n p d t s m w (question.Answer.different path) e rm rw = through (within E n w) rw
  where
    through : (o : Ending F P A) → Says E n w o → Says E n (Ask.compare p d t s m w) o
    through (Ending.ok a) r = Ends.are_different (record { bound = n; path = path; is = e }) r
    through (Ending.fails f) r = Ends.are_different (record { bound = n; path = path; is = e }) r
    through (Ending.spent r q) x = FirstSpent.past_different e x
compare-says E n p d t s m w question.Answer.spent e rm rw = FirstSpent.at_compare e

pub says : {F P A : Type 0} (E : Env) (n : ℕ) (m : Ask F P A) → Says E n m (within E n m)
unfolding within
says E n (Ask.done a) = Ends.is_done
says E n (Ask.fail f) = Ends.has_failed
says E n (Ask.head p d t g) = head-says E n p d t g (question.head E n t) refl (λ h. says E n (g h))
says E n (Ask.read p d t g) = reading-says E n p d t g (reading.read E n t) refl (λ r. says E n (g r))
says E n (Ask.compare p d t s m w) = compare-says E n p d t s m w (question.compare E n t s) refl (says E n m)
    (says E n w)

pub is-spent : {F P A : Type 0} (E : Env) (n : ℕ) {m : Ask F P A} {p : P} {q : Question} → FirstSpent E n m p q →
    within E n m ≡ Ending.spent p q
unfolding within on_head on_answer
is-spent E n (FirstSpent.at_head e) = rw e refl
is-spent E n (FirstSpent.at_reading e) = rw e refl
is-spent E n (FirstSpent.at_compare e) = rw e refl
is-spent E n (FirstSpent.past_head e r) = rw e (is-spent E n r)
is-spent E n (FirstSpent.past_reading e r) = rw e (is-spent E n r)
is-spent E n (FirstSpent.past_equal e r) = rw e (is-spent E n r)
is-spent E n (FirstSpent.past_different e r) = rw e (is-spent E n r)

-- ---- one ending
-- a head that is found stands under each greater bound
head-stays : (E : Env) (n m k : ℕ) (t h : Term) → n ≤ m → question.head E n t ≡ question.Head.done h k →
    question.head E m t ≡ question.Head.done h k
head-stays E n m k t h l e =
    let (w, p, b) = (head_is_exact.found E n k t h).0 e in (head_is_exact.found E m k t h).1 (w, p, omega arith)

pub one-head : (E : Env) (t h k : Term) → HeadIs E t h → HeadIs E t k → h ≡ k
one-head E t h k x y =
    let a = head-stays E x.bound (x.bound + y.bound) x.made t h (omega arith) x.is in
    let b = head-stays E y.bound (x.bound + y.bound) y.made t k (omega arith) y.is in
    let d : question.Head.done h x.made ≡ question.Head.done k y.made = sym a ∙ b in cc d

pub one-ending : {F P A : Type 0} (E : Env) → BodiesClosed E → (m : Ask F P A) (e r : Ending F P A) → Ends E m e →
    Ends E m r → e ≡ r
one-ending E bodies (Ask.done a) e r Ends.is_done Ends.is_done = refl
one-ending E bodies (Ask.fail f) e r Ends.has_failed Ends.has_failed = refl
one-ending E bodies (Ask.head p d t g) e r (Ends.has_head {h = h} x xs) (Ends.has_head {h = k} y ys) =
    one-ending E bodies (g h) e r xs (subst (λ z. Ends E (g z) r) (one-head E t k h y x) ys)
one-ending E bodies (Ask.read p d t g) e r (Ends.has_reading {r = h} x xs) (Ends.has_reading {r = k} y ys) =
    one-ending E bodies (g h) e r xs (subst (λ z. Ends E (g z) r) (one-reading E t k h y x) ys)
one-ending E bodies (Ask.compare p d t s m w) e r (Ends.are_equal x xs) (Ends.are_equal y ys) =
    one-ending E bodies m e r xs ys
one-ending E bodies (Ask.compare p d t s m w) e r (Ends.are_equal x xs) (Ends.are_different y ys) =
    absurd (different_is_apart E bodies y.bound t s y.path y.is x)
one-ending E bodies (Ask.compare p d t s m w) e r (Ends.are_different x xs) (Ends.are_equal y ys) =
    absurd (different_is_apart E bodies x.bound t s x.path x.is y)
one-ending E bodies (Ask.compare p d t s m w) e r (Ends.are_different x xs) (Ends.are_different y ys) =
    one-ending E bodies w e r xs ys

-- ---- larger budgets
head-larger : {F P A : Type 0} (E : Env) (n k : ℕ) (p : P) (d : ℕ) (t : Term) (g : Term → Ask F P A)
    (h : question.Head) → n ≤ k → question.head E n t ≡ h →
    ((s : Term) → (IsSpent (within E n (g s)) → ⊥) → within E k (g s) ≡ within E n (g s)) →
    (IsSpent (on_head h (λ s. within E n (g s)) (Ending.spent p (Question.head_of d t))) → ⊥) →
    on_head (question.head E k t) (λ s. within E k (g s)) (Ending.spent p (Question.head_of d t)) ≡ on_head h
    (λ s. within E n (g s)) (Ending.spent p (Question.head_of d t))
unfolding on_head
head-larger E n k p d t g (question.Head.done h made) l e rest s = rw (head-stays E n k made t h l e) (rest h s)
head-larger E n k p d t g question.Head.spent l e rest s = absurd (s tt)

reading-larger : {F P A : Type 0} (E : Env) (n k : ℕ) (p : P) (d : ℕ) (t : Term) (g : Term → Ask F P A)
    (h : question.Head) → n ≤ k → reading.read E n t ≡ h →
    ((s : Term) → (IsSpent (within E n (g s)) → ⊥) → within E k (g s) ≡ within E n (g s)) →
    (IsSpent (on_head h (λ s. within E n (g s)) (Ending.spent p (Question.head_of d t))) → ⊥) →
    on_head (reading.read E k t) (λ s. within E k (g s)) (Ending.spent p (Question.head_of d t)) ≡ on_head h
    (λ s. within E n (g s)) (Ending.spent p (Question.head_of d t))
unfolding on_head
reading-larger E n k p d t g (question.Head.done h made) l e rest s = rw (read-stays E n k made t h l e) (rest h s)
reading-larger E n k p d t g question.Head.spent l e rest s = absurd (s tt)

compare-larger : {F P A : Type 0} (E : Env) (n k : ℕ) (t s : Term) (a : question.Answer)
    (m w m' w' o : Ending F P A) → n ≤ k → question.compare E n t s ≡ a →
    IsSpent o → ((IsSpent m → ⊥) → m' ≡ m) → ((IsSpent w → ⊥) → w' ≡ w) → (IsSpent (on_answer a m w o) → ⊥) →
    on_answer (question.compare E k t s) m' w' o ≡ on_answer a m w o
unfolding on_answer
compare-larger E n k t s question.Answer.equal m w m' w' o l e i f g x =
    rw (count_alone_limits.stands E n k t s l (λ d. cc (sym e ∙ d)) ∙ e) (f x)
compare-larger E n k t s (question.Answer.different path) m w m' w' o l e i f g x =
    rw (count_alone_limits.stands E n k t s l (λ d. cc (sym e ∙ d)) ∙ e) (g x)
compare-larger E n k t s question.Answer.spent m w m' w' o l e i f g x = absurd (x i)

pub larger : {F P A : Type 0} (E : Env) (n k : ℕ) (m : Ask F P A) → n ≤ k → (IsSpent (within E n m) → ⊥) →
    within E k m ≡ within E n m
unfolding within
larger E n k (Ask.done a) l s = refl
larger E n k (Ask.fail f) l s = refl
larger E n k (Ask.head p d t g) l s = head-larger E n k p d t g (question.head E n t) l refl
    (λ h x. larger E n k (g h) l x) s
larger E n k (Ask.read p d t g) l s = reading-larger E n k p d t g (reading.read E n t) l refl
    (λ r x. larger E n k (g r) l x) s
larger E n k (Ask.compare p d t r m w) l s =
    compare-larger E n k t r (question.compare E n t r) (within E n m) (within E n w) (within E k m) (within E k w)
    (Ending.spent p (Question.compared d t r)) l refl tt
    (λ x. larger E n k m l x) (λ x. larger E n k w l x) s
