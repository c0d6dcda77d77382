-- How one list of questions and then another end within a budget, as a call answers.
use Rattle.std.proofs.Common.{◌≡◌, ℕ, List, Bool, true, false, Result, Ok, Err, MatchResult, IsErrAnd, refl, ap, subst, sym, ◌∙◌}
use Rattle.qtt_usage.specs.declared.mult.Mult.{Mult}
use Rattle.qtt_term.specs.Term.{Term}
use Rattle.qtt_term.specs.Signature.{Env}
use Rattle.qtt_term.specs.Ask.{Ask, ◌>>=◌, Ending, within}
use Rattle.qtt_term.specs.Premises as premises
use Rattle.qtt_core_check.proofs.Within.{onward, within-then}
use Rattle.qtt_rules.specs.declared.errors.ElabError.{ElabError}
use Rattle.qtt_rules.specs.declared.errors.ElabError.TheVariants as error
use Rattle.qtt_rules.specs.Refusal.{Cause, Place, Refusal, at}
use Rattle.qtt_rules.specs.Asks.{Asks, need}
use Rattle.qtt_rules.specs.Judged.{judged}
use Rattle.qtt_bidi.specs.Answers.{Kept, kept, Reaches, Fails, Tells, Refuses, Gives}

onto : (E : Env) (n : ℕ) {A B : Type 0} (m : Asks A) (k : A → Asks B) (e : Ending Refusal Place A) →
    within E n m ≡ e →
    within E n (m >>= k) ≡ onward e (λ a. within E n (k a))
onto E n m k e h = within-then E n m k ∙ ap (λ x. onward x (λ a. within E n (k a))) h

pub on_done : {E : Env} {n : ℕ} {A : Type 0} {a : A} → Reaches E n (Ask.done a) a
unfolding within
on_done = record { is = refl }

-- an answer, and then the answer of what follows
pub on : {E : Env} {n : ℕ} {A B : Type 0} {m : Asks A} (k : A → Asks B) {a : A} {b : B} → Reaches E n m a →
    Reaches E n (k a) b → Reaches E n (m >>= k) b
on {m = m} k h r = record { is = onto _ _ m k _ h.is ∙ r.is }

-- ---- refusals
told-here : (E : Env) (n : ℕ) {A B : Type 0} (m : Asks A) (k : A → Asks B) (p : Place) (t : Kept) →
    Tells E n m p t → Tells E n (m >>= k) p t
told-here E n m k p (Kept.premise c) h = record { is = onto _ _ m k _ h.is }
told-here E n m k p (Kept.question_of b q) h = record { budget = h.budget; is = onto _ _ m k _ h.is }
told-here E n m k p Kept.nothing h = h

told-later : (E : Env) (n : ℕ) {A B : Type 0} (m : Asks A) (k : A → Asks B) {a : A} (p : Place) (t : Kept) →
    Reaches E n m a → Tells E n (k a) p t → Tells E n (m >>= k) p t
told-later E n m k p (Kept.premise c) h f = record { is = onto _ _ m k _ h.is ∙ f.is }
told-later E n m k p (Kept.question_of b q) h f = record { budget = f.budget; is = onto _ _ m k _ h.is ∙ f.is }
told-later E n m k p Kept.nothing h f = f

told-same : (E : Env) (n : ℕ) {A : Type 0} (m w : Asks A) (p : Place) (t : Kept) → within E n w ≡ within E n m →
    Tells E n m p t → Tells E n w p t
told-same E n m w p (Kept.premise c) e h = record { is = e ∙ h.is }
told-same E n m w p (Kept.question_of b q) e h = record { budget = h.budget; is = e ∙ h.is }
told-same E n m w p Kept.nothing e h = h

-- a refusal of a part is that of the whole
pub here : (E : Env) (n : ℕ) {A B : Type 0} (m : Asks A) (k : A → Asks B) (e : ElabError) → Refuses E n m e →
    Refuses E n (m >>= k) e
here E n m k (error.Refused d s r i) h = told-here E n m k (at s r i) (kept d) h
here E n m k error.Memory h = tt

-- a refusal of what follows an answer
pub later : (E : Env) (n : ℕ) {A B : Type 0} (m : Asks A) (k : A → Asks B) (e : ElabError) {a : A} →
    Reaches E n m a → Refuses E n (k a) e → Refuses E n (m >>= k) e
later E n m k (error.Refused d s r i) h f = told-later E n m k (at s r i) (kept d) h f
later E n m k error.Memory h f = tt

-- the refusal that a question mark passes on
pub passed : (E : Env) (n : ℕ) {A X : Type 0} (m : Asks A) (view : X → A) (r : Result X ElabError) (e : ElabError) →
    IsErrAnd r (λ y. y ≡ e) → Refuses E n m e → Gives E n m view r
passed E n m view (Ok x) e h f = absurd h
passed E n m view (Err y) e h f = subst (λ z. Refuses E n m z) (sym h) f

-- ---- premises that are tests
pub holds : {E : Env} {n : ℕ} (b : Bool) (c : Cause) (p : Place) → b ≡ true → Reaches E n (need b c p) tt
unfolding premises.need
holds b c p h = rw h on_done

pub unmet : {E : Env} {n : ℕ} (b : Bool) (c : Cause) (p : Place) → b ≡ false → Fails E n (need b c p) c p
unfolding premises.need within
unmet b c p h = rw h record { is = refl }

pub fails_here : {E : Env} {n : ℕ} {A B : Type 0} {m : Asks A} (k : A → Asks B) {c : Cause} {p : Place} →
    Fails E n m c p → Fails E n (m >>= k) c p
fails_here {m = m} k h = record { is = onto _ _ m k _ h.is }

pub fails_later : {E : Env} {n : ℕ} {A B : Type 0} {m : Asks A} (k : A → Asks B) {a : A} {c : Cause} {p : Place} →
    Reaches E n m a → Fails E n (k a) c p → Fails E n (m >>= k) c p
fails_later {m = m} k h r = record { is = onto _ _ m k _ h.is ∙ r.is }

-- ---- answers
pub reached : {E : Env} {n : ℕ} {A : Type 0} {m : Asks A} {a b : A} → Reaches E n m a → a ≡ b → Reaches E n m b
reached {E} {n} {m = m} h e = subst (λ x. Reaches E n m x) e h

-- the last call's answer is that of the whole
pub tail : (E : Env) (n : ℕ) {A B X : Type 0} (m : Asks A) (k : A → Asks B) (view : X → B)
    (r : Result X ElabError) {a : A} →
    Reaches E n m a → Gives E n (k a) view r → Gives E n (m >>= k) view r
tail E n m k view (Ok x) h f = on k h f
tail E n m k view (Err e) h f = later E n m k e h f

-- a last call that wants nothing but memory
pub finished : {E : Env} {n : ℕ} {A X : Type 0} (m : Asks A) (view : X → A) (r : Result X ElabError) {a : A} →
    Reaches E n m a → MatchResult r (λ x. view x ≡ a) (λ e. e ≡ error.Memory) → Gives E n m view r
finished m view (Ok x) h d = reached h (sym d)
finished {E} {n} m view (Err e) h d = subst (λ e. Refuses E n m e) (sym d) tt

-- ---- lists that are the same
pub same : (E : Env) (n : ℕ) {A X : Type 0} (m w : Asks A) (view : X → A) (r : Result X ElabError) → w ≡ m →
    Gives E n m view r → Gives E n w view r
same E n m w view r e h = subst (λ z. Gives E n z view r) (sym e) h

pub same-answer : {E : Env} {n : ℕ} {A : Type 0} (m w : Asks A) (a : A) → w ≡ m → Reaches E n m a → Reaches E n w a
same-answer {E} {n} m w a e h = subst (λ z. Reaches E n z a) (sym e) h

pub same-refusal : (E : Env) (n : ℕ) {A : Type 0} (m w : Asks A) (r : ElabError) → w ≡ m → Refuses E n m r →
    Refuses E n w r
same-refusal E n m w r e h = subst (λ z. Refuses E n z r) (sym e) h

pub same-judged : {A B t s : Term} {us ws : List Mult} → A ≡ B → t ≡ s → us ≡ ws → judged A t us ≡ judged B s ws
same-judged {A} {B} {t} {s} {us} {ws} a b c =
    ap (λ A. judged A t us) a ∙ ap (λ t. judged B t us) b ∙ ap (λ us. judged B s us) c

-- want of memory that a question mark passes on
pub memory-passed : (E : Env) (n : ℕ) {A X : Type 0} (m : Asks A) (view : X → A) (r : Result X ElabError)
    (e : ElabError) → IsErrAnd r (λ y. y ≡ e) → e ≡ error.Memory → Gives E n m view r
memory-passed E n m view r e h f = passed E n m view r e h (subst (λ e. Refuses E n m e) (sym f) tt)
