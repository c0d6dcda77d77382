-- How lists of questions end with an answer, premise by premise.
use Rattle.std.proofs.Common.{◌≡◌, ℕ, Bool, true, false, Option, Some, None, refl}
use Rattle.qtt_term.specs.Term.{Term}
use Rattle.qtt_term.specs.Signature.{Env}
use Rattle.qtt_term.specs.Contraction.{Conv}
use Rattle.qtt_term.specs.Ask.{Ask, Ending, HeadIs, Ends, asked_at}
use Rattle.qtt_term.specs.Premises.{need, found, head_as}
use Rattle.qtt_term.specs.Infer.{Premise}
use Rattle.qtt_rules.specs.Refusal.{Place, Refusal}
use Rattle.qtt_rules.specs.Asks.{Asks, agree}

-- it ends with this answer
abbrev pub Gives : Env → {A : Type 0} → Asks A → A → Type 0
Gives E m a = Ends E m (Ending.ok a)

pub holding : {E : Env} (b : Bool) (r : Refusal) (u : Unit {0}) → Gives E (need b r) u → b ≡ true
unfolding need
holding true r u x = refl
holding false r u x = elim x [ ]

pub held : {E : Env} (b : Bool) (r : Refusal) → b ≡ true → Gives E (need b r) tt
unfolding need
held true r e = Ends.is_done
held false r e = absurd (cc e)

pub agreeing : {E : Env} (n : ℕ) (t s : Term) (p : Place) (u : Unit {0}) → Gives E (agree n t s p) u → Conv E t s
agreeing n t s p u (Ends.are_equal e x) = e
agreeing n t s p u (Ends.are_different e x) = elim x [ ]

pub agreed : {E : Env} (n : ℕ) (t s : Term) (p : Place) → Conv E t s → Gives E (agree n t s p) tt
agreed n t s p e = Ends.are_equal e Ends.is_done

-- the head of a type, and what it was looked for
pub record HeadSeen (E : Env) {X : Type 0} (view : Term → Option X) (A : Term) (x : X) : Type 0 where
  pub head : Term
  pub is_head : HeadIs E A head
  pub seen : view head ≡ Some x

looked_for : {E : Env} {X : Type 0} (o : Option X) (r : Refusal) (x : X) →
    Ends E {P = Place} (found o r) (Ending.ok x) → o ≡ Some x
looked_for None r x y = elim y [ ]
looked_for (Some z) r x Ends.is_done = refl

looked_up : {E : Env} {X : Type 0} (o : Option X) (r : Refusal) (x : X) → o ≡ Some x →
    Ends E {P = Place} (found o r) (Ending.ok x)
looked_up o r x e = rw e Ends.is_done

pub head_found : {E : Env} {X : Type 0} (view : Term → Option X) (p : Place) (n : ℕ) (A : Term) (r : Refusal) (x : X) →
    Gives E (head_as view p n A r) x → HeadSeen E view A x
head_found view p n A r x (Ends.has_head {h = h} e y) =
    record { head = h; is_head = e; seen = looked_for (view h) r x y }

pub found_head : {E : Env} {X : Type 0} (view : Term → Option X) (p : Place) (n : ℕ) (A : Term) (r : Refusal) (x : X) →
    HeadSeen E view A x → Gives E (head_as view p n A r) x
found_head view p n A r x f = Ends.has_head f.is_head (looked_up (view f.head) r x f.seen)

-- a core judgement that is asked, and what follows its answer
pub record Asked (E : Env) {A B : Type 0} (m : Ask Premise (Unit {0}) A) (k : A → Asks B) (b : B) : Type 0 where
  pub mid : A
  pub first : Ends E m (Ending.ok mid)
  pub after : Gives E (k mid) b

pub asked : {E : Env} {A B : Type 0} (p : Place) (m : Ask Premise (Unit {0}) A) (k : A → Asks B)
    (r : Premise → Refusal) (b : B) → Gives E (asked_at p m k (λ x. Ask.fail (r x))) b → Asked E m k b
unfolding asked_at
asked p (Ask.done a) k r b x = record { mid = a; first = Ends.is_done; after = x }
asked p (Ask.fail f) k r b x = elim x [ ]
asked p (Ask.head u d t g) k r b (Ends.has_head {h = h} e x) =
    let y = asked p (g h) k r b x in record { mid = y.mid; first = Ends.has_head e y.first; after = y.after }
asked p (Ask.read u d t g) k r b (Ends.has_reading {r = h} e x) =
    let y = asked p (g h) k r b x in record { mid = y.mid; first = Ends.has_reading e y.first; after = y.after }
asked p (Ask.compare u d t s m w) k r b (Ends.are_equal e x) =
    let y = asked p m k r b x in record { mid = y.mid; first = Ends.are_equal e y.first; after = y.after }
asked p (Ask.compare u d t s m w) k r b (Ends.are_different e x) =
    let y = asked p w k r b x in record { mid = y.mid; first = Ends.are_different e y.first; after = y.after }

pub asks : {E : Env} {A B : Type 0} (p : Place) (m : Ask Premise (Unit {0}) A) (k : A → Asks B) (r : Premise → Asks B)
    {a : A} {b : B} → Ends E m (Ending.ok a) → Gives E (k a) b → Gives E (asked_at p m k r) b
unfolding asked_at
asks p (Ask.done a) k r Ends.is_done y = y
asks p (Ask.fail f) k r x y = elim x [ ]
asks p (Ask.head u d t g) k r (Ends.has_head {h = h} e x) y = Ends.has_head e (asks p (g h) k r x y)
asks p (Ask.read u d t g) k r (Ends.has_reading {r = h} e x) y = Ends.has_reading e (asks p (g h) k r x y)
asks p (Ask.compare u d t s m w) k r (Ends.are_equal e x) y = Ends.are_equal e (asks p m k r x y)
asks p (Ask.compare u d t s m w) k r (Ends.are_different e x) y = Ends.are_different e (asks p w k r x y)
