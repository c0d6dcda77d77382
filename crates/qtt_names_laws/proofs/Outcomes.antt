-- Looking at one part after another.
use Rattle.std.proofs.Common.{◌≡◌, List, ◌∷◌, ◌++◌, Ok, Err, sym, ap, ◌∙◌, subst, inl, inr}
use Rattle.qtt_names.specs.Answer.{Answer, Mistake, ◌>>=◌}
use Rattle.qtt_names_laws.specs.Faults.{Occurrence, Right, Wrong, AllRight, FirstFault}
use Rattle.qtt_names_laws.proofs.Sights.{sight_is_a_function}

-- an answer is a value that is related, where all is right, or the first fault
pub data Outcome {A : Type 0} (R : A → Type 0) (os : List Occurrence) : Answer A → Type 0 where
  ok : {a : A} → R a → AllRight os → Outcome R os (Ok a)
  err : {m : Mistake} → FirstFault m os → Outcome R os (Err m)

all_right : (os qs : List Occurrence) → AllRight os → AllRight qs → AllRight (os ++ qs)
all_right _ qs AllRight.none k = k
all_right _ qs (AllRight.and_more {more = more} r h) k = AllRight.and_more r (all_right more qs h k)

front_fault : (m : Mistake) (os qs : List Occurrence) → FirstFault m os → FirstFault m (os ++ qs)
front_fault m _ qs (FirstFault.here w) = FirstFault.here w
front_fault m _ qs (FirstFault.behind_right {more = more} r h) = FirstFault.behind_right r (front_fault m more qs h)

later_fault : (m : Mistake) (os qs : List Occurrence) → AllRight os → FirstFault m qs → FirstFault m (os ++ qs)
later_fault m _ qs AllRight.none k = k
later_fault m _ qs (AllRight.and_more {more = more} r h) k = FirstFault.behind_right r (later_fault m more qs h k)

behind_all : {B : Type 0} (S : B → Type 0) (os qs : List Occurrence) (r : Answer B) → AllRight os →
    Outcome S qs r → Outcome S (os ++ qs) r
behind_all S os qs _ h (Outcome.ok x k) = Outcome.ok x (all_right os qs h k)
behind_all S os qs _ h (Outcome.err {m = m} k) = Outcome.err (later_fault m os qs h k)

pub then_outcome : {A B : Type 0} {R : A → Type 0} {S : B → Type 0} {os qs : List Occurrence} (r : Answer A)
    (k : A → Answer B) → Outcome R os r → ((a : A) → R a → Outcome S qs (k a)) → Outcome S (os ++ qs) (r >>= k)
unfolding ◌>>=◌
then_outcome {S = S} {os = os} {qs = qs} _ k (Outcome.ok {a = a} x h) f = behind_all S os qs (k a) h (f a x)
then_outcome {os = os} {qs = qs} _ k (Outcome.err {m = m} h) f = Outcome.err (front_fault m os qs h)

pub done : {A B : Type 0} {R : A → Type 0} {S : B → Type 0} {os : List Occurrence} (r : Answer A) (f : A → B) →
    Outcome R os r → ((a : A) → R a → S (f a)) → Outcome S os (r >>= λ a. Ok (f a))
unfolding ◌>>=◌
done _ f (Outcome.ok {a = a} x h) g = Outcome.ok (g a x) h
done _ f (Outcome.err h) g = Outcome.err h

-- a part that has one answer, and then the rest
pub then_is : {A B : Type 0} (r : Answer A) (k : A → Answer B) {a : A} {b : Answer B} → r ≡ Ok a → k a ≡ b →
    (r >>= k) ≡ b
unfolding ◌>>=◌
then_is r k e h = ap (λ x. x >>= k) e ∙ h

-- ---- what an outcome says

pub mapped : {A : Type 0} {R S : A → Type 0} {os : List Occurrence} {r : Answer A} → ((a : A) → R a → S a) →
    Outcome R os r → Outcome S os r
mapped f (Outcome.ok {a = a} x h) = Outcome.ok (f a x) h
mapped f (Outcome.err h) = Outcome.err h

-- behind one that is right
pub right_then : {A : Type 0} {R : A → Type 0} {o : Occurrence} {os : List Occurrence} {r : Answer A} → Right o →
    Outcome R os r → Outcome R (o ∷ os) r
right_then x (Outcome.ok y h) = Outcome.ok y (AllRight.and_more x h)
right_then x (Outcome.err h) = Outcome.err (FirstFault.behind_right x h)

same_value : {A : Type 0} (a b : A) → ◌≡◌ {A = Answer A} (Ok a) (Ok b) → a ≡ b
same_value a b e = cc

same_fault : {A : Type 0} (a b : Mistake) → ◌≡◌ {A = Answer A} (Err a) (Err b) → a ≡ b
same_fault a b e = cc

pub value_of : {A : Type 0} (R : A → Type 0) (os : List Occurrence) (r : Answer A) (a : A) → Outcome R os r →
    r ≡ Ok a → R a
value_of R os _ a (Outcome.ok {a = b} x h) e = subst R (same_value b a e) x
value_of R os _ a (Outcome.err {m = m} h) e = absurd (cc e)

pub fault_of : {A : Type 0} (R : A → Type 0) (os : List Occurrence) (r : Answer A) (m : Mistake) → Outcome R os r →
    r ≡ Err m → FirstFault m os
fault_of R os _ m (Outcome.ok {a = b} x h) e = absurd (cc e)
fault_of R os _ m (Outcome.err {m = k} h) e = subst (λ (l : Mistake). FirstFault l os) (same_fault k m e) h

-- ---- one first fault

right_or_wrong : (o : Occurrence) (m : Mistake) → Right o → Wrong o m → ⊥
right_or_wrong (Occurrence.use_of p n) m r (inl w) = sight_is_a_function.not_nothing p n.path r.0 r.1 w.0
right_or_wrong (Occurrence.use_of p n) m r (inr w) = sight_is_a_function.not_more p n.path r.0 r.1 w.0
right_or_wrong (Occurrence.new before n s) m r w = w.0 r
right_or_wrong (Occurrence.defined earlier n s) m r w = w.0 r
right_or_wrong (Occurrence.grouped last clauses n s) m r w = w.0 r

one_fault : (o : Occurrence) (m k : Mistake) → Wrong o m → Wrong o k → m ≡ k
one_fault (Occurrence.use_of p n) m k (inl w) (inl v) = w.1 ∙ sym v.1
one_fault (Occurrence.use_of p n) m k (inl w) (inr v) = absurd (sight_is_a_function.not_both p n.path w.0 v.0)
one_fault (Occurrence.use_of p n) m k (inr w) (inl v) = absurd (sight_is_a_function.not_both p n.path v.0 w.0)
one_fault (Occurrence.use_of p n) m k (inr w) (inr v) = w.1 ∙ sym v.1
one_fault (Occurrence.new before n s) m k w v = w.1 ∙ sym v.1
one_fault (Occurrence.defined earlier n s) m k w v = w.1 ∙ sym v.1
one_fault (Occurrence.grouped last clauses n s) m k w v = w.1 ∙ sym v.1

no_fault : (os : List Occurrence) (m : Mistake) → AllRight os → FirstFault m os → ⊥
no_fault _ m AllRight.none k = elim k [ ]
no_fault _ m (AllRight.and_more {o = o} {more = more} r h) (FirstFault.here w) = right_or_wrong o m r w
no_fault _ m (AllRight.and_more {o = o} {more = more} r h) (FirstFault.behind_right x k) = no_fault more m h k

one_first : (m k : Mistake) (os : List Occurrence) → FirstFault m os → FirstFault k os → m ≡ k
one_first m k _ (FirstFault.here {o = o} w) (FirstFault.here v) = one_fault o m k w v
one_first m k _ (FirstFault.here {o = o} w) (FirstFault.behind_right x h) = absurd (right_or_wrong o m x w)
one_first m k _ (FirstFault.behind_right {o = o} x h) (FirstFault.here v) = absurd (right_or_wrong o k x v)
one_first m k _ (FirstFault.behind_right {more = more} x h) (FirstFault.behind_right y j) = one_first m k more h j

pub faulty : {A : Type 0} (R : A → Type 0) (os : List Occurrence) (r : Answer A) (m : Mistake) → Outcome R os r →
    FirstFault m os → r ≡ Err m
faulty R os _ m (Outcome.ok x h) k = absurd (no_fault os m h k)
faulty R os _ m (Outcome.err {m = l} h) k = ap Err (one_first l m os h k)
