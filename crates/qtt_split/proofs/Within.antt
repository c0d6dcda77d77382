-- How one list of questions and then another end within a budget, as a call answers.
use Rattle.std.proofs.Common.{◌≡◌, ℕ, Bool, true, false, Result, Ok, Err, IsErrAnd, refl, ap, subst, sym, ◌∙◌}
use Rattle.qtt_base.specs.declared.place.Span.{Span}
use Rattle.qtt_term.specs.Term.{Term}
use Rattle.qtt_term.specs.Signature.{Env}
use Rattle.qtt_term.specs.Question as question
use Rattle.qtt_term.specs.Ask.{Ask, ◌>>=◌, Question, Ending, within, on_head}
use Rattle.qtt_term.specs.Premises as premises
use Rattle.qtt_rules.specs.declared.errors.ElabError.{ElabError}
use Rattle.qtt_rules.specs.declared.errors.ElabError.TheVariants as error
use Rattle.qtt_rules.specs.Refusal.{Cause, Place, Refusal, at}
use Rattle.qtt_rules.specs.Asks.{Asks, need, head_of}
use Rattle.qtt_unify.proofs.Within.{onward, within-then}
use Rattle.qtt_unify.specs.declared.error.UnifyError.{UnifyError}
use Rattle.qtt_unify.specs.declared.error.UnifyError.TheVariants as unify_error
use Rattle.qtt_unify.specs.View as unify
use Rattle.qtt_unify.specs.View.{question as question_of}
use Rattle.qtt_split.specs.declared.planner.Test as code_test
use Rattle.qtt_split.specs.Calls.{test_of, told_as}
use Rattle.qtt_split.specs.Tests.{at as test_at}
use Rattle.qtt_split.specs.Answers.{Kept, kept, Reaches, Fails, Tells, Refuses, Gives}

onto : (E : Env) (n : ℕ) {A B : Type 0} (m : Asks A) (k : A → Asks B) (e : Ending Refusal Place A) →
    within E n m ≡ e →
    within E n (m >>= k) ≡ onward e (λ a. within E n (k a))
onto E n m k e h = within-then E n m k ∙ ap (λ x. onward x (λ a. within E n (k a))) h

pub on_done : {E : Env} {n : ℕ} {A : Type 0} {a : A} → Reaches E n (Ask.done a) a
unfolding within
on_done = record { is = refl }

-- an answer, and then the answer of what follows
pub on : {E : Env} {n : ℕ} {A B : Type 0} {m : Asks A} (k : A → Asks B) {a : A} {b : B} → Reaches E n m a →
    Reaches E n (k a) b → Reaches E n (m >>= k) b
on {m = m} k h r = record { is = onto _ _ m k _ h.is ∙ r.is }

-- behind an answer what is left is what follows
pub past : (E : Env) (n : ℕ) {A B : Type 0} (m : Asks A) (k : A → Asks B) {a : A} → Reaches E n m a →
    within E n (m >>= k) ≡ within E n (k a)
past E n m k h = onto E n m k _ h.is

-- ---- refusals
told-here : (E : Env) (n : ℕ) {A B : Type 0} (m : Asks A) (k : A → Asks B) (p : Place) (t : Kept) →
    Tells E n m p t → Tells E n (m >>= k) p t
told-here E n m k p (Kept.premise c) h = record { is = onto _ _ m k _ h.is }
told-here E n m k p (Kept.question_of b q) h = record { budget = h.budget; is = onto _ _ m k _ h.is }
told-here E n m k p Kept.nothing h = h

told-later : (E : Env) (n : ℕ) {A B : Type 0} (m : Asks A) (k : A → Asks B) {a : A} (p : Place) (t : Kept) →
    Reaches E n m a → Tells E n (k a) p t → Tells E n (m >>= k) p t
told-later E n m k p (Kept.premise c) h f = record { is = onto _ _ m k _ h.is ∙ f.is }
told-later E n m k p (Kept.question_of b q) h f = record { budget = f.budget; is = onto _ _ m k _ h.is ∙ f.is }
told-later E n m k p Kept.nothing h f = f

told-same : (E : Env) (n : ℕ) {A : Type 0} (m w : Asks A) (p : Place) (t : Kept) → within E n w ≡ within E n m →
    Tells E n m p t → Tells E n w p t
told-same E n m w p (Kept.premise c) e h = record { is = e ∙ h.is }
told-same E n m w p (Kept.question_of b q) e h = record { budget = h.budget; is = e ∙ h.is }
told-same E n m w p Kept.nothing e h = h

-- a refusal of a part is that of the whole
pub here : (E : Env) (n : ℕ) {A B : Type 0} (m : Asks A) (k : A → Asks B) (e : ElabError) → Refuses E n m e →
    Refuses E n (m >>= k) e
here E n m k (error.Refused d s r i) h = told-here E n m k (at s r i) (kept d) h
here E n m k error.Memory h = tt

-- a refusal of what follows an answer
pub later : (E : Env) (n : ℕ) {A B : Type 0} (m : Asks A) (k : A → Asks B) (e : ElabError) {a : A} →
    Reaches E n m a → Refuses E n (k a) e → Refuses E n (m >>= k) e
later E n m k (error.Refused d s r i) h f = told-later E n m k (at s r i) (kept d) h f
later E n m k error.Memory h f = tt

-- the refusal that a question mark passes on
pub passed : (E : Env) (n : ℕ) {A X : Type 0} (m : Asks A) (view : X → A) (r : Result X ElabError) (e : ElabError) →
    IsErrAnd r (λ y. y ≡ e) → Refuses E n m e → Gives E n m view r
passed E n m view (Ok x) e h f = absurd h
passed E n m view (Err y) e h f = subst (λ z. Refuses E n m z) (sym h) f

-- ---- premises that are tests
pub holds : {E : Env} {n : ℕ} (b : Bool) (c : Cause) (p : Place) → b ≡ true → Reaches E n (need b c p) tt
unfolding premises.need
holds b c p h = rw h on_done

pub unmet : {E : Env} {n : ℕ} (b : Bool) (c : Cause) (p : Place) → b ≡ false → Fails E n (need b c p) c p
unfolding premises.need within
unmet b c p h = rw h record { is = refl }

-- ---- lists that end the same
pub ends-alike : (E : Env) (n : ℕ) {A X : Type 0} (m w : Asks A) (view : X → A) (r : Result X ElabError) →
    within E n w ≡ within E n m → Gives E n m view r → Gives E n w view r
ends-alike E n m w view (Ok x) e h = record { is = e ∙ h.is }
ends-alike E n m w view (Err (error.Refused d s r i)) e h = told-same E n m w (at s r i) (kept d) e h
ends-alike E n m w view (Err error.Memory) e h = tt

pub refuses-alike : (E : Env) (n : ℕ) {A : Type 0} (m w : Asks A) (e : ElabError) →
    within E n w ≡ within E n m → Refuses E n m e → Refuses E n w e
refuses-alike E n m w (error.Refused d s r i) e h = told-same E n m w (at s r i) (kept d) e h
refuses-alike E n m w error.Memory e h = tt

-- ---- answers
pub reached : {E : Env} {n : ℕ} {A : Type 0} {m : Asks A} {a b : A} → Reaches E n m a → a ≡ b → Reaches E n m b
reached {E} {n} {m = m} h e = subst (λ x. Reaches E n m x) e h

-- the last call's answer is that of the whole
pub tail : (E : Env) (n : ℕ) {A B X : Type 0} (m : Asks A) (k : A → Asks B) (view : X → B)
    (r : Result X ElabError) {a : A} →
    Reaches E n m a → Gives E n (k a) view r → Gives E n (m >>= k) view r
tail E n m k view (Ok x) h f = on k h f
tail E n m k view (Err e) h f = later E n m k e h f

-- ---- questions of unification, at a place
head-reached-by : (H : question.Head) (d : ℕ) (t h : Term) (p : Place) →
    on_head {F = ⊥} {P = Unit {0}} {A = Term} H (λ x. Ending.ok x) (Ending.spent tt (Question.head_of d t))
    ≡ Ending.ok h
    → on_head {F = Refusal} {P = Place} {A = Term} H (λ x. Ending.ok x) (Ending.spent p (Question.head_of d t))
    ≡ Ending.ok h
unfolding on_head
head-reached-by (question.Head.done x made) d t h p e = let same : x ≡ h = cc in ap (λ y. Ending.ok y) same
head-reached-by question.Head.spent d t h p e = absurd (cc e)

pub head-reached : (E : Env) (n d : ℕ) (t h : Term) (p : Place) → unify.Reaches E n (premises.head_of tt d t) h →
    Reaches E n (head_of p d t) h
unfolding within
head-reached E n d t h p r = record { is = head-reached-by (question.head E n t) d t h p r.is }

head-spent-by : (H : question.Head) (d : ℕ) (t : Term) (p : Place) (q : Question) →
    on_head {F = ⊥} {P = Unit {0}} {A = Term} H (λ x. Ending.ok x) (Ending.spent tt (Question.head_of d t))
    ≡ Ending.spent tt q →
    on_head {F = Refusal} {P = Place} {A = Term} H (λ x. Ending.ok x) (Ending.spent p (Question.head_of d t))
    ≡ Ending.spent p q
unfolding on_head
head-spent-by (question.Head.done x made) d t p q e = absurd (cc e)
head-spent-by question.Head.spent d t p q e =
    let same : Question.head_of d t ≡ q = cc in ap (λ x. Ending.spent p x) same

pub head-refused : (E : Env) (n d : ℕ) (t : Term) (s : Span) (x : code_test.Test) (e : UnifyError) →
    unify.Refuses E n (premises.head_of tt d t) e →
    Refuses E n (head_of (test_at s (test_of x)) d t) (told_as n s x e)
unfolding within
head-refused E n d t s x (unify_error.Spent q) r = record {
  budget = refl;
  is = head-spent-by (question.head E n t) d t (test_at s (test_of x)) (question_of q) r.is;
}
head-refused E n d t s x unify_error.Memory r = tt
