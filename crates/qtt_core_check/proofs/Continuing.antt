-- A list of questions as a part of another: what the part's ending says of the whole.
use Rattle.std.proofs.Common.{◌≡◌, ℕ, Result, Ok, Err, MatchResult, refl, sym, ap, subst, ◌∙◌}
use mathlib.Core.Path.{ap₂, fun_ext}
use Rattle.qtt_term.specs.Signature.{Env}
use Rattle.qtt_term.specs.Ask.{Ask, ◌>>=◌, Question, Ending, within}
use Rattle.qtt_term.specs.Infer.{Asks, Premise}
use Rattle.qtt_core_check.specs.declared.refusal.CoreRefusal.{CoreRefusal}
use Rattle.qtt_core_check.specs.declared.refusal.CoreRefusal.TheVariants as refusal
use Rattle.qtt_core_check.specs.Seen.{Reaches, Refuses, Gives}
use Rattle.qtt_core_check.proofs.Within.{onward, within-then, reached}

pub bind-assoc : {F P A B C : Type 0} (m : Ask F P A) (k : A → Ask F P B) (l : B → Ask F P C) →
    (m >>= k) >>= l ≡ m >>= (λ a. k a >>= l)
unfolding ◌>>=◌
bind-assoc (Ask.done a) k l = refl
bind-assoc (Ask.fail f) k l = refl
bind-assoc (Ask.head p d t g) k l = ap (Ask.head p d t) (fun_ext λ h. bind-assoc (g h) k l)
bind-assoc (Ask.read p d t g) k l = ap (Ask.read p d t) (fun_ext λ r. bind-assoc (g r) k l)
bind-assoc (Ask.compare p d t s m w) k l = ap₂ (Ask.compare p d t s) (bind-assoc m k l) (bind-assoc w k l)

pub bind-done : {F P A B : Type 0} (a : A) (k : A → Ask F P B) → Ask.done a >>= k ≡ k a
unfolding ◌>>=◌
bind-done a k = refl

pub bind-along : {F P A B : Type 0} (m : Ask F P A) (k l : A → Ask F P B) → ((a : A) → k a ≡ l a) → m >>= k ≡ m >>= l
bind-along m k l same = ap (λ k. m >>= k) (fun_ext same)

ok-injective : {F P A : Type 0} (a b : A) → ◌≡◌ {A = Ending F P A} (Ending.ok a) (Ending.ok b) → a ≡ b
ok-injective a b e = cc e

-- the answer in the middle
pub record Middle (E : Env) (n : ℕ) {A B : Type 0} (m : Asks A) (k : A → Asks B) (b : B) : Type 0 where
  pub mid : A
  pub first : Reaches E n m mid
  pub after : Reaches E n (k mid) b

-- where the one fails or is spent, the other is so too
pub record Passes (E : Env) (n : ℕ) {A B : Type 0} (m : Asks A) (m' : Asks B) : Type 0 where
  pub fails : (f : Premise) → within E n m ≡ Ending.fails f → within E n m' ≡ Ending.fails f
  pub spent : (p : Unit {0}) (q : Question) → within E n m ≡ Ending.spent p q → within E n m' ≡ Ending.spent p q

pub same-refusal : (E : Env) (n : ℕ) {A : Type 0} (m m' : Asks A) → within E n m ≡ within E n m' →
    (e : CoreRefusal) → Refuses E n m' e → Refuses E n m e
same-refusal E n m m' h (refusal.Fails r k) d = record { is = h ∙ d.is }
same-refusal E n m m' h (refusal.Spent q) d = record { is = h ∙ d.is }
same-refusal E n m m' h refusal.Memory d = tt

module _ {E : Env} {n : ℕ} where
  pub one-answer : {A : Type 0} {m : Asks A} {a b : A} → Reaches E n m a → Reaches E n m b → a ≡ b
  one-answer {a = a} {b = b} r s = ok-injective a b (sym r.is ∙ s.is)

  pub done-is : {A : Type 0} {a b : A} → Reaches E n (Ask.done a) b → a ≡ b
  unfolding within
  done-is {a = a} {b = b} r = ok-injective a b r.is

  pub middle : {A B : Type 0} (m : Asks A) (k : A → Asks B) {b : B} → Reaches E n (m >>= k) b → Middle E n m k b
  middle {A} {B} m k {b} r = go (within E n m) refl
    where
      go : (e : Ending Premise (Unit {0}) A) → within E n m ≡ e → Middle E n m k b
      go (Ending.ok a) d = record {
        mid = a;
        first = record { is = d };
        after = record { is = sym (within-then E n m k ∙ ap (λ x. onward x (λ a. within E n (k a))) d) ∙ r.is };
      }
      go (Ending.fails f) d =
          let e : ◌≡◌ {A = Ending Premise (Unit {0}) B} (Ending.fails f) (Ending.ok b) =
          sym (within-then E n m k ∙ ap (λ x. onward x (λ a. within E n (k a))) d) ∙ r.is in absurd (cc e)
      go (Ending.spent p q) d =
          let e : ◌≡◌ {A = Ending Premise (Unit {0}) B} (Ending.spent p q) (Ending.ok b) =
          sym (within-then E n m k ∙ ap (λ x. onward x (λ a. within E n (k a))) d) ∙ r.is in absurd (cc e)

  pub reach-then : {A B : Type 0} (m : Asks A) (k : A → Asks B) {a : A} → Reaches E n m a →
      within E n (m >>= k) ≡ within E n (k a)
  reach-then m k r = within-then E n m k ∙ ap (λ x. onward x (λ a. within E n (k a))) r.is

  pub refused : {A B : Type 0} {m : Asks A} {m' : Asks B} → Passes E n m m' →
      (e : CoreRefusal) → Refuses E n m e → Refuses E n m' e
  refused h (refusal.Fails r k) d = record { is = h.fails _ d.is }
  refused h (refusal.Spent q) d = record { is = h.spent _ _ d.is }
  refused h refusal.Memory d = tt

  pub passes-first : {A B : Type 0} (m : Asks A) (k : A → Asks B) → Passes E n m (m >>= k)
  passes-first m k = record {
    fails = λ f d. within-then E n m k ∙ ap (λ x. onward x (λ a. within E n (k a))) d;
    spent = λ p q d. within-then E n m k ∙ ap (λ x. onward x (λ a. within E n (k a))) d;
  }

  pub passes-then : {A B C : Type 0} {m : Asks C} {m' : Asks A} (k : A → Asks B) → Passes E n m m' →
      Passes E n m (m' >>= k)
  passes-then {m' = m'} k s = record {
    fails = λ f d. (passes-first m' k).fails f (s.fails f d);
    spent = λ p q d. (passes-first m' k).spent p q (s.spent p q d);
  }

  pub done-passes : {A B : Type 0} (a : A) (m : Asks B) → Passes E n (Ask.done a) m
  unfolding within
  done-passes a m = record { fails = λ f d. absurd (cc d); spent = λ p q d. absurd (cc d) }

  pub fail-passes : {A B : Type 0} (f : Premise) → Passes E n {A = A} {B = B} (Ask.fail f) (Ask.fail f)
  unfolding ◌>>=◌
  fail-passes f = passes-first (Ask.fail f) (λ a. Ask.fail f)

  pub passes-after : {A B C : Type 0} {m : Asks C} (h : Asks A) (k : A → Asks B) {a : A} → Reaches E n h a →
      Passes E n m (k a) → Passes E n m (h >>= k)
  passes-after h k r s = record {
    fails = λ f d. reach-then h k r ∙ s.fails f d;
    spent = λ p q d. reach-then h k r ∙ s.spent p q d;
  }

  pub passes-mapped : {A B C D : Type 0} (m : Asks A) (f : A → B) (m' : Asks C) (k : C → Asks D) →
      Passes E n m m' → Passes E n (m >>= (λ a. Ask.done (f a))) (m' >>= k)
  unfolding within
  passes-mapped {A} {B} m f m' k s = record {
    fails = λ g d. fails_so g d (within E n m) refl;
    spent = λ p q d. spent_so p q d (within E n m) refl;
  }
    where
      ends : (e : Ending Premise (Unit {0}) A) → within E n m ≡ e →
          within E n (m >>= (λ a. Ask.done (f a))) ≡ onward e (λ a. Ending.ok (f a))
      ends e h = within-then E n m (λ a. Ask.done (f a)) ∙ ap (λ x. onward x (λ a. Ending.ok (f a))) h

      fails_so : (g : Premise) → within E n (m >>= (λ a. Ask.done (f a))) ≡ Ending.fails g →
          (e : Ending Premise (Unit {0}) A) → within E n m ≡ e → within E n (m' >>= k) ≡ Ending.fails g
      fails_so g d (Ending.ok a) h =
          let c : ◌≡◌ {A = Ending Premise (Unit {0}) B} (Ending.ok (f a)) (Ending.fails g) =
          sym (ends (Ending.ok a) h) ∙ d in absurd (cc c)
      fails_so g d (Ending.fails i) h =
          let c : ◌≡◌ {A = Ending Premise (Unit {0}) B} (Ending.fails i) (Ending.fails g) =
          sym (ends (Ending.fails i) h) ∙ d in
          let same : i ≡ g = cc c in
          (passes-first m' k).fails g (s.fails g (h ∙ ap Ending.fails same))
      fails_so g d (Ending.spent p q) h =
          let c : ◌≡◌ {A = Ending Premise (Unit {0}) B} (Ending.spent p q) (Ending.fails g) =
          sym (ends (Ending.spent p q) h) ∙ d in absurd (cc c)

      spent_so : (p : Unit {0}) (q : Question) → within E n (m >>= (λ a. Ask.done (f a))) ≡ Ending.spent p q →
          (e : Ending Premise (Unit {0}) A) → within E n m ≡ e →
          within E n (m' >>= k) ≡ Ending.spent p q
      spent_so p q d (Ending.ok a) h =
          let c : ◌≡◌ {A = Ending Premise (Unit {0}) B} (Ending.ok (f a)) (Ending.spent p q) =
          sym (ends (Ending.ok a) h) ∙ d in absurd (cc c)
      spent_so p q d (Ending.fails i) h =
          let c : ◌≡◌ {A = Ending Premise (Unit {0}) B} (Ending.fails i) (Ending.spent p q) =
          sym (ends (Ending.fails i) h) ∙ d in absurd (cc c)
      spent_so p q d (Ending.spent r x) h =
          let c : ◌≡◌ {A = Ending Premise (Unit {0}) B} (Ending.spent r x) (Ending.spent p q) =
          sym (ends (Ending.spent r x) h) ∙ d in
          let same : x ≡ q = cc c in
          (passes-first m' k).spent p q (s.spent p q (h ∙ ap (Ending.spent p) same))

  pub passes-along : {A B C : Type 0} (h : Asks A) (k : A → Asks B) (l : A → Asks C) →
      ((a : A) → Reaches E n h a → Passes E n (k a) (l a)) → Passes E n (h >>= k) (h >>= l)
  passes-along {A} {B} {C} h k l s = record {
    fails = λ f d. fails_so f d (within E n h) refl;
    spent = λ p q d. spent_so p q d (within E n h) refl;
  }
    where
      before : (e : Ending Premise (Unit {0}) A) → within E n h ≡ e →
          within E n (h >>= k) ≡ onward e (λ a. within E n (k a))
      before e r = within-then E n h k ∙ ap (λ x. onward x (λ a. within E n (k a))) r

      behind : (e : Ending Premise (Unit {0}) A) → within E n h ≡ e →
          within E n (h >>= l) ≡ onward e (λ a. within E n (l a))
      behind e r = within-then E n h l ∙ ap (λ x. onward x (λ a. within E n (l a))) r

      fails_so : (f : Premise) → within E n (h >>= k) ≡ Ending.fails f →
          (e : Ending Premise (Unit {0}) A) → within E n h ≡ e → within E n (h >>= l) ≡ Ending.fails f
      fails_so f d (Ending.ok a) r =
          let reached : Reaches E n h a = record { is = r } in
          reach-then h l reached ∙ (s a reached).fails f (sym (reach-then h k reached) ∙ d)
      fails_so f d (Ending.fails g) r =
          let c : ◌≡◌ {A = Ending Premise (Unit {0}) B} (Ending.fails g) (Ending.fails f) =
          sym (before (Ending.fails g) r) ∙ d in
          let same : g ≡ f = cc c in
          behind (Ending.fails g) r ∙ ap Ending.fails same
      fails_so f d (Ending.spent p q) r =
          let c : ◌≡◌ {A = Ending Premise (Unit {0}) B} (Ending.spent p q) (Ending.fails f) =
          sym (before (Ending.spent p q) r) ∙ d in absurd (cc c)

      spent_so : (p : Unit {0}) (q : Question) → within E n (h >>= k) ≡ Ending.spent p q →
          (e : Ending Premise (Unit {0}) A) → within E n h ≡ e → within E n (h >>= l) ≡ Ending.spent p q
      spent_so p q d (Ending.ok a) r =
          let reached : Reaches E n h a = record { is = r } in
          reach-then h l reached ∙ (s a reached).spent p q (sym (reach-then h k reached) ∙ d)
      spent_so p q d (Ending.fails g) r =
          let c : ◌≡◌ {A = Ending Premise (Unit {0}) B} (Ending.fails g) (Ending.spent p q) =
          sym (before (Ending.fails g) r) ∙ d in absurd (cc c)
      spent_so p q d (Ending.spent x y) r =
          let c : ◌≡◌ {A = Ending Premise (Unit {0}) B} (Ending.spent x y) (Ending.spent p q) =
          sym (before (Ending.spent x y) r) ∙ d in
          let same : y ≡ q = cc c in
          behind (Ending.spent x y) r ∙ ap (Ending.spent x) same

  -- a last call that wants nothing but memory
  pub finished : {A X : Type 0} (m : Asks A) (view : X → A) (r : Result X CoreRefusal) {a : A} → Reaches E n m a →
      MatchResult r (λ x. view x ≡ a) (λ e. e ≡ refusal.Memory) → Gives E n m view r
  finished m view (Ok x) h d = reached h (sym d)
  finished m view (Err e) h d = subst (λ e. Refuses E n m e) (sym d) tt
