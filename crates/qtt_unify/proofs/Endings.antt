-- Lists of questions one after the other, without a bound.
use Rattle.std.proofs.Common.{◌≡◌, refl, subst}
use Rattle.qtt_term.specs.Term.{Term}
use Rattle.qtt_term.specs.Signature.{Env}
use Rattle.qtt_term.specs.Ask.{Ask, ◌>>=◌, Ending, Ends}

-- the answer of the first list, and the ending of what follows it
pub record Parts (E : Env) {F P A B : Type 0} (m : Ask F P A) (k : A → Ask F P B) (b : B) : Type 0 where
  pub mid : A
  pub first : Ends E m (Ending.ok mid)
  pub after : Ends E (k mid) (Ending.ok b)

pub parts : {E : Env} {F P A B : Type 0} (m : Ask F P A) (k : A → Ask F P B) (b : B) →
    Ends E (m >>= k) (Ending.ok b) → Parts E m k b
unfolding ◌>>=◌
parts (Ask.done a) k b x = record { mid = a; first = Ends.is_done; after = x }
parts (Ask.fail f) k b x = elim x [ ]
parts (Ask.head p d t g) k b (Ends.has_head {h = h} e x) =
    let r = parts (g h) k b x in record { mid = r.mid; first = Ends.has_head e r.first; after = r.after }
parts (Ask.read p d t g) k b (Ends.has_reading {r = h} e x) =
    let r = parts (g h) k b x in record { mid = r.mid; first = Ends.has_reading e r.first; after = r.after }
parts (Ask.compare p d t s m w) k b (Ends.are_equal e x) =
    let r = parts m k b x in record { mid = r.mid; first = Ends.are_equal e r.first; after = r.after }
parts (Ask.compare p d t s m w) k b (Ends.are_different e x) =
    let r = parts w k b x in record { mid = r.mid; first = Ends.are_different e r.first; after = r.after }

pub and_then : {E : Env} {F P A B : Type 0} {a : A} {e : Ending F P B} (m : Ask F P A) (k : A → Ask F P B) →
    Ends E m (Ending.ok a) → Ends E (k a) e → Ends E (m >>= k) e
unfolding ◌>>=◌
and_then (Ask.done a) k Ends.is_done y = y
and_then (Ask.fail f) k x y = elim x [ ]
and_then (Ask.head p d t g) k (Ends.has_head {h = h} e x) y = Ends.has_head e (and_then (g h) k x y)
and_then (Ask.read p d t g) k (Ends.has_reading {r = h} e x) y = Ends.has_reading e (and_then (g h) k x y)
and_then (Ask.compare p d t s m w) k (Ends.are_equal e x) y = Ends.are_equal e (and_then m k x y)
and_then (Ask.compare p d t s m w) k (Ends.are_different e x) y = Ends.are_different e (and_then w k x y)

pub ended : {E : Env} {F P A : Type 0} (a b : A) → Ends E {F = F} {P = P} (Ask.done a) (Ending.ok b) → a ≡ b
ended a b Ends.is_done = refl

pub ends_with : {E : Env} {F P A : Type 0} {a b : A} → a ≡ b → Ends E {F = F} {P = P} (Ask.done a) (Ending.ok b)
ends_with {E} {F} {P} {a = a} e = subst (λ x. Ends E {F = F} {P = P} (Ask.done a) (Ending.ok x)) e Ends.is_done

-- ---- lists in which nothing can fail
abbrev pub NoFailure : {F P A : Type 0} → Ask F P A → Type 0
NoFailure (Ask.done a) = Unit {0}
NoFailure (Ask.fail f) = ⊥
NoFailure (Ask.head p n t g) = (h : Term) → NoFailure (g h)
NoFailure (Ask.read p n t g) = (h : Term) → NoFailure (g h)
NoFailure (Ask.compare p n t s m w) = NoFailure m × NoFailure w

pub no_failure-then : {F P A B : Type 0} (m : Ask F P A) (k : A → Ask F P B) → NoFailure m →
    ((a : A) → NoFailure (k a)) → NoFailure (m >>= k)
unfolding ◌>>=◌
no_failure-then (Ask.done a) k x y = y a
no_failure-then (Ask.fail f) k x y = absurd x
no_failure-then (Ask.head p n t g) k x y = λ h. no_failure-then (g h) k (x h) y
no_failure-then (Ask.read p n t g) k x y = λ h. no_failure-then (g h) k (x h) y
no_failure-then (Ask.compare p n t s m w) k x y = (no_failure-then m k x.0 y, no_failure-then w k x.1 y)

pub never : {E : Env} {F P A : Type 0} (m : Ask F P A) (f : F) → NoFailure m → Ends E m (Ending.fails f) → ⊥
never (Ask.done a) f x e = elim e [ ]
never (Ask.fail g) f x e = absurd x
never (Ask.head p n t g) f x (Ends.has_head {h = h} i e) = never (g h) f (x h) e
never (Ask.read p n t g) f x (Ends.has_reading {r = h} i e) = never (g h) f (x h) e
never (Ask.compare p n t s m w) f x (Ends.are_equal i e) = never m f x.0 e
never (Ask.compare p n t s m w) f x (Ends.are_different i e) = never w f x.1 e
