-- Readers that are exact for their phrases: tokens, what is made of a phrase, one phrase after another.
use Rattle.std.proofs.Common.{◌≡◌, Bool, true, false, cond, List, [], ◌∷◌, ◌++◌, Option, Some, None, refl, sym, ap, subst, ◌∙◌, append_assoc, inl, inr, ◌⊎◌}
use Rattle.qtt_phrase.specs.Phrase.{Phrase, Weighed, Chain, Making, ◌or◌, first}
use Rattle.qtt_phrase.specs.Reading.{Kind, Read, Reader, ◌>>=◌, judge, token_at, chain_at, making_at, begins, either_at}
use Rattle.qtt_phrase.specs.Reading.Kind.{unexpected}
use Rattle.qtt_phrase.specs.Reading.Read.{got, bad, over}

abbrev pub Stops : {T : Type 0} → (T → Bool) → List T → Type 0
Stops g ls = begins g ls ≡ false

-- no fault, or one of those that a completion is free to have
abbrev pub Mild : {F : Type 0} → (F → Type 0) → Option F → Type 0
Mild fresh None = Unit {0}
Mild fresh (Some f) = fresh f

-- a phrase with that value and fault was read
abbrev pub Judged : {T F A : Type 0} → Option F → A → List T → Read T F A → Type 0
Judged None a rest read = read ≡ got a rest
Judged (Some f) a rest read = (r : List _) × (read ≡ over f r)

pub record Splits {T F A : Type 0} (P : Phrase T F A) (reads : Reader T F A) (ls : List T) (a : A)
    (rest : List T) : Type 0 where
  pub front : List T
  pub parts : ls ≡ front ++ rest
  pub means : P front a None
  -- that the phrase ends there is settled by the next token
  pub stays : (x : T) (r s : List T) → rest ≡ x ∷ r → reads (front ++ x ∷ s) ≡ got a (x ∷ s)

-- a phrase that begins so
pub record Begun {T F A : Type 0} (fresh : F → Type 0) (P : Phrase T F A) (front : List T) : Type 0 where
  pub more : List T
  pub value : A
  pub fault : Option F
  pub means : P (front ++ more) value fault
  pub mild : Mild fresh fault

pub record Stuck {T F A : Type 0} (fresh : F → Type 0) (P : Phrase T F A) (reads : Reader T F A) (ls : List T)
    (k : Kind) (rest : List T) : Type 0 where
  pub front : List T
  pub parts : ls ≡ front ++ rest
  -- that the token is bad is settled by it and those before
  pub stays : (x : T) (r s : List T) → rest ≡ x ∷ r → reads (front ++ x ∷ s) ≡ bad k (x ∷ s)
  pub goes : (front ≡ []) ⊎ Begun fresh P front

pub record Started {T F A : Type 0} (P : Phrase T F A) (front : List T) : Type 0 where
  pub more : List T
  pub value : A
  pub fault : Option F
  pub means : P (front ++ more) value fault

pub record Passed {T F A : Type 0} (P : Phrase T F A) (reads : Reader T F A) (ls : List T) (f : F)
    (rest : List T) : Type 0 where
  pub front : List T
  pub last : T
  pub parts : ls ≡ front ++ last ∷ rest
  -- the fault is settled by the last token and those before
  pub stays : (s : List T) → reads (front ++ last ∷ s) ≡ over f s
  pub begun : Started P (front ++ last ∷ [])

-- g has the tokens that would go on with a phrase
pub record Exact {T F A : Type 0} (fresh : F → Type 0) (P : Phrase T F A) (g : T → Bool)
    (reads : Reader T F A) : Type 0 where
  pub sound : (ls : List T) (a : A) (rest : List T) → reads ls ≡ got a rest → Splits P reads ls a rest
  pub complete : (us : List T) (a : A) (o : Option F) (rest : List T) → P us a o → Stops g rest →
      Judged o a rest (reads (us ++ rest))
  pub stuck : (ls : List T) (k : Kind) (rest : List T) → reads ls ≡ bad k rest → Stuck fresh P reads ls k rest
  pub passed : (ls : List T) (f : F) (rest : List T) → reads ls ≡ over f rest → Passed P reads ls f rest

-- some phrase of that kind
pub record Sample {T F A : Type 0} (fresh : F → Type 0) (P : Phrase T F A) : Type 0 where
  pub tokens : List T
  pub value : A
  pub fault : Option F
  pub means : P tokens value fault
  pub mild : Mild fresh fault

-- ---- faults

pub first-none : {F : Type 0} (o : Option F) → first o None ≡ o
first-none None = refl
first-none (Some f) = refl

pub first-assoc : {F : Type 0} (o p q : Option F) → first (first o p) q ≡ first o (first p q)
first-assoc None p q = refl
first-assoc (Some f) p q = refl

pub mild_first : {F : Type 0} (fresh : F → Type 0) (o p : Option F) → Mild fresh o → Mild fresh p →
    Mild fresh (first o p)
mild_first fresh None p h k = k
mild_first fresh (Some f) p h k = h

pub mild_is : {F : Type 0} (fresh : F → Type 0) (o p : Option F) → o ≡ p → Mild fresh p → Mild fresh o
mild_is fresh o p e h = subst (λ (q : Option _). Mild fresh q) (sym e) h

pub judge_judged : {T F A : Type 0} (o : Option F) (a : A) (ls : List T) → Judged o a ls (judge o a ls)
judge_judged None a ls = refl
judge_judged (Some f) a ls = (ls, refl)

pub judged_is : {T F A : Type 0} (o p : Option F) (a : A) (ls : List T) (r : Read T F A) → o ≡ p →
    Judged p a ls r → Judged o a ls r
judged_is o p a ls r e h = subst (λ (q : Option _). Judged q a ls r) (sym e) h

pub judged_read : {T F A : Type 0} (o : Option F) (a : A) (ls : List T) (r s : Read T F A) → r ≡ s →
    Judged o a ls s → Judged o a ls r
judged_read o a ls r s e h = subst (λ (q : Read _ _ _). Judged o a ls q) (sym e) h

-- ---- steps

pub record Took {T F A B : Type 0} (r : Read T F A) (f : A → List T → Read T F B) (y : Read T F B) : Type 0 where
  pub value : A
  pub rest : List T
  pub first : r ≡ got value rest
  pub second : f value rest ≡ y

pub bind_got : {T F A B : Type 0} (r : Read T F A) (f : A → List T → Read T F B) (b : B) (s : List T) →
    (r >>= f) ≡ got b s → Took r f (got b s)
bind_got (got x ls) f b s e = record { value = x; rest = ls; first = refl; second = e }
bind_got (bad k ls) f b s e = absurd cc
bind_got (over k ls) f b s e = absurd cc

pub bind_bad : {T F A B : Type 0} (r : Read T F A) (f : A → List T → Read T F B) (k : Kind) (s : List T) →
    (r >>= f) ≡ bad k s → (r ≡ bad k s) ⊎ Took r f (bad k s)
bind_bad (got x ls) f k s e = inr (record { value = x; rest = ls; first = refl; second = e })
bind_bad (bad c ls) f k s e = inl cc
bind_bad (over c ls) f k s e = absurd cc

pub bind_over : {T F A B : Type 0} (r : Read T F A) (f : A → List T → Read T F B) (k : F) (s : List T) →
    (r >>= f) ≡ over k s → (r ≡ over k s) ⊎ Took r f (over k s)
bind_over (got x ls) f k s e = inr (record { value = x; rest = ls; first = refl; second = e })
bind_over (bad c ls) f k s e = absurd cc
bind_over (over c ls) f k s e = inl cc

-- ---- one token

abbrev pub nothing : {T : Type 0} → T → Bool
nothing _ = false

token_got : {T F A : Type 0} (b : Bool) (o : Option F) (v : A) (x : T) (ls : List T) (a : A) (rest : List T) →
    cond b (judge o v ls) (bad unexpected (x ∷ ls)) ≡ got a rest → (b ≡ true) × (o ≡ None) × (v ≡ a) × (ls ≡ rest)
token_got true None v x ls a rest e = (refl, refl, cc, cc)
token_got true (Some f) v x ls a rest e = absurd cc
token_got false o v x ls a rest e = absurd cc

token_bad : {T F A : Type 0} (b : Bool) (o : Option F) (v : A) (x : T) (ls : List T) (k : Kind) (rest : List T) →
    cond b (judge o v ls) (bad unexpected (x ∷ ls)) ≡ bad k rest →
    (b ≡ false) × (unexpected ≡ k) × (x ∷ ls ≡ rest)
token_bad true None v x ls k rest e = absurd cc
token_bad true (Some f) v x ls k rest e = absurd cc
token_bad false o v x ls k rest e = (refl, cc, cc)

token_over : {T F A : Type 0} (b : Bool) (o : Option F) (v : A) (x : T) (ls : List T) (f : F) (rest : List T) →
    cond b (judge o v ls) (bad unexpected (x ∷ ls)) ≡ over f rest → (b ≡ true) × (o ≡ Some f) × (ls ≡ rest)
token_over true None v x ls f rest e = absurd cc
token_over true (Some f') v x ls f rest e = (refl, cc, cc)
token_over false o v x ls f rest e = absurd cc

module _ {T F A : Type 0} (fresh : F → Type 0) (faults : T → Option F) (is : T → Bool) (value : T → A) where
  token_sound : (ls : List T) (a : A) (rest : List T) → token_at faults is value ls ≡ got a rest →
      Splits (Weighed faults is value) (token_at faults is value) ls a rest
  token_sound [] a rest e = absurd cc
  token_sound (x ∷ ls) a rest e =
      let t = token_got (is x) (faults x) (value x) x ls a rest e in
      record {
        front = x ∷ [];
        parts = ap (λ (r : List T). x ∷ r) t.3;
        means = (x, refl, t.0, t.2, t.1);
        stays = λ y r s h. rw (t.0, t.1) (ap (λ z. got z (y ∷ s)) t.2);
      }

  token_complete : (us : List T) (a : A) (o : Option F) (rest : List T) → Weighed faults is value us a o →
      Judged o a rest (token_at faults is value (us ++ rest))
  token_complete us a o rest (x, e, v, w, f) = rw (e, v, ← w, ← f) (judge_judged (faults x) (value x) rest)

  token_stuck : (ls : List T) (k : Kind) (rest : List T) → token_at faults is value ls ≡ bad k rest →
      Stuck fresh (Weighed faults is value) (token_at faults is value) ls k rest
  token_stuck [] k rest e = record { front = []; parts = cc; stays = λ x r s h. absurd cc; goes = inl refl }
  token_stuck (x ∷ ls) k rest e =
      let t = token_bad (is x) (faults x) (value x) x ls k rest e in
      record {
        front = [];
        parts = t.2;
        stays = λ y r s h. let same : x ≡ y = (let j = t.2 in cc) in rw (← same, t.0, t.1) refl;
        goes = inl refl;
      }

  token_passed : (ls : List T) (f : F) (rest : List T) → token_at faults is value ls ≡ over f rest →
      Passed (Weighed faults is value) (token_at faults is value) ls f rest
  token_passed [] f rest e = absurd cc
  token_passed (x ∷ ls) f rest e =
      let t = token_over (is x) (faults x) (value x) x ls f rest e in
      record {
        front = [];
        last = x;
        parts = ap (λ (r : List T). x ∷ r) t.2;
        stays = λ s. rw (t.0, t.1) refl;
        begun = record { more = []; value = value x; fault = faults x; means = (x, refl, t.0, refl, refl) };
      }

  pub token_exact : Exact fresh (Weighed faults is value) nothing (token_at faults is value)
  token_exact = record {
    sound = token_sound;
    complete = λ us a o rest p e. token_complete us a o rest p;
    stuck = token_stuck;
    passed = token_passed;
  }

-- ---- the value made of a value

module _ {T F A B : Type 0} {fresh : F → Type 0} {P : Phrase T F A} {g : T → Bool} {p : Reader T F A} (f : A → B)
    (ex : Exact fresh P g p) where
  making_sound : (ls : List T) (b : B) (rest : List T) → making_at f p ls ≡ got b rest →
      Splits (Making f P) (making_at f p) ls b rest
  making_sound ls b rest e =
      let t = bind_got (p ls) (λ a r. got (f a) r) b rest e in
      let s = ex.sound ls t.value t.rest t.first in
      let v : f t.value ≡ b = let h = t.second in cc in
      let r : t.rest ≡ rest = let h = t.second in cc in
      record {
        front = s.front;
        parts = s.parts ∙ ap (λ (z : List T). s.front ++ z) r;
        means = (t.value, s.means, v);
        stays = λ x q z h. ap (λ (y : Read T F A). y >>= λ a r. got (f a) r) (s.stays x q z (r ∙ h)) ∙
            ap (λ y. got y (x ∷ z)) v;
      }

  making_judged : (o : Option F) (a : A) (b : B) (rest : List T) (r : Read T F A) → f a ≡ b → Judged o a rest r →
      Judged o b rest (r >>= λ a r. got (f a) r)
  making_judged None a b rest r e h = ap (λ (y : Read T F A). y >>= λ a r. got (f a) r) h ∙ ap (λ z. got z rest) e
  making_judged (Some k) a b rest r e (s, h) = (s, ap (λ (y : Read T F A). y >>= λ a r. got (f a) r) h)

  making_complete : (us : List T) (b : B) (o : Option F) (rest : List T) → Making f P us b o → Stops g rest →
      Judged o b rest (making_at f p (us ++ rest))
  making_complete us b o rest (a, m, v) e = making_judged o a b rest (p (us ++ rest)) v (ex.complete us a o rest m e)

  making_stuck : (ls : List T) (k : Kind) (rest : List T) → making_at f p ls ≡ bad k rest →
      Stuck fresh (Making f P) (making_at f p) ls k rest
  making_stuck ls k rest e =
      elim (bind_bad (p ls) (λ a r. got (f a) r) k rest e) [
        | inl h ↦
            let s = ex.stuck ls k rest h in
            record {
              front = s.front;
              parts = s.parts;
              stays = λ x r z h2. ap (λ (y : Read T F A). y >>= λ a r. got (f a) r) (s.stays x r z h2);
              goes = elim s.goes [
                | inl n ↦ inl n
                | inr go ↦
                    inr (record {
                      more = go.more;
                      value = f go.value;
                      fault = go.fault;
                      means = (go.value, go.means, refl);
                      mild = go.mild;
                    })
              ];
            }
        | inr t ↦ let h = t.second in absurd cc
      ]

  making_passed : (ls : List T) (k : F) (rest : List T) → making_at f p ls ≡ over k rest →
      Passed (Making f P) (making_at f p) ls k rest
  making_passed ls k rest e =
      elim (bind_over (p ls) (λ a r. got (f a) r) k rest e) [
        | inl h ↦
            let s = ex.passed ls k rest h in
            record {
              front = s.front;
              last = s.last;
              parts = s.parts;
              stays = λ z. ap (λ (y : Read T F A). y >>= λ a r. got (f a) r) (s.stays z);
              begun = record {
                more = s.begun.more;
                value = f s.begun.value;
                fault = s.begun.fault;
                means = (s.begun.value, s.begun.means, refl);
              };
            }
        | inr t ↦ let h = t.second in absurd cc
      ]

  pub making_exact : Exact fresh (Making f P) g (making_at f p)
  making_exact = record {
    sound = making_sound;
    complete = making_complete;
    stuck = making_stuck;
    passed = making_passed;
  }

-- ---- one and then another

-- what holds of the tokens behind a phrase
pub record Fits {T F A B : Type 0} (gP : T → Bool) (Q : A → Phrase T F B) (gQ : A → T → Bool)
    (g : T → Bool) : Type 0 where
  pub before : (a : A) (vs rest : List T) (b : B) (o : Option F) → Q a vs b o → Stops g rest → Stops gP (vs ++ rest)
  pub after : (a : A) (vs rest : List T) (b : B) (o : Option F) → Q a vs b o → Stops g rest → Stops (gQ a) rest

abbrev pair_at : {T F A B : Type 0} → (A → Reader T F B) → A → List T → Read T F (A × B)
pair_at q a r = q a r >>= λ b s. got (a, b) s

-- where a phrase ends before other tokens, it ends there too with others behind their first
pub then_goes : {T F A : Type 0} (P : Phrase T F A) (p : Reader T F A) (ls : List T) (a : A) (mid : List T)
    (s : Splits P p ls a mid) (vs : List T) (x : T) (r z : List T) → mid ≡ vs ++ x ∷ r →
    p (s.front ++ (vs ++ x ∷ z)) ≡ got a (vs ++ x ∷ z)
then_goes P p ls a mid s [] x r z e = s.stays x r z e
then_goes P p ls a mid s (v ∷ vs) x r z e = s.stays v (vs ++ x ∷ r) (vs ++ x ∷ z) e

module _ {T F A B : Type 0} (fresh : F → Type 0) (P : Phrase T F A) (gP : T → Bool) (p : Reader T F A)
    (Q : A → Phrase T F B) (gQ : A → T → Bool) (q : A → Reader T F B) (g : T → Bool)
    (ep : Exact fresh P gP p) (eq : (a : A) → Exact fresh (Q a) (gQ a) (q a)) (fits : Fits gP Q gQ g)
    (some : (us : List T) (a : A) (o : Option F) → P us a o → Sample fresh (Q a)) where
  chain_sound : (ls : List T) (c : A × B) (rest : List T) → chain_at p q ls ≡ got c rest →
      Splits (Chain P Q) (chain_at p q) ls c rest
  chain_sound ls c rest e =
      let t = bind_got (p ls) (pair_at q) c rest e in
      let u = bind_got (q t.value t.rest) (λ b s. got (t.value, b) s) c rest t.second in
      let x = ep.sound ls t.value t.rest t.first in
      let y = (eq t.value).sound t.rest u.value u.rest u.first in
      let c-is : (t.value, u.value) ≡ c = let h = u.second in cc in
      let rest-is : u.rest ≡ rest = let h = u.second in cc in
      record {
        front = x.front ++ y.front;
        parts = x.parts ∙ ap (λ (z : List T). x.front ++ z) (y.parts ∙ ap (λ (z : List T). y.front ++ z) rest-is)
            ∙ sym (append_assoc x.front y.front rest);
        means = subst (λ (z : A × B). Chain P Q (x.front ++ y.front) z None) c-is
            (x.front, y.front, None, None, refl, x.means, y.means, refl);
        stays = λ w r z h.
            let one = then_goes P p ls t.value t.rest x y.front w r z
            (y.parts ∙ ap (λ (m : List T). y.front ++ m) (rest-is ∙ h)) in
            ap (λ (m : List T). chain_at p q m) (append_assoc x.front y.front (w ∷ z)) ∙
            ap (λ (m : Read T F A). m >>= pair_at q) one ∙
            ap (λ (m : Read T F B). m >>= λ b s. got (t.value, b) s) (y.stays w r z (rest-is ∙ h)) ∙
            ap (λ m. got m (w ∷ z)) c-is;
      }

  chain_judged : (o u : Option F) (a : A) (b : B) (mid rest : List T) (r : Read T F A) → Judged o a mid r →
      Judged u b rest (q a mid) → Judged (first o u) (a, b) rest (r >>= pair_at q)
  chain_judged (Some k) u a b mid rest r (s, h) h2 = (s, ap (λ (z : Read T F A). z >>= pair_at q) h)
  chain_judged None None a b mid rest r h h2 =
      ap (λ (z : Read T F A). z >>= pair_at q) h ∙ ap (λ (z : Read T F B). z >>= λ b s. got (a, b) s) h2
  chain_judged None (Some k) a b mid rest r h (s, h2) =
      (s, ap (λ (z : Read T F A). z >>= pair_at q) h ∙ ap (λ (z : Read T F B). z >>= λ b s. got (a, b) s) h2)

  chain_complete : (ws : List T) (c : A × B) (o : Option F) (rest : List T) → Chain P Q ws c o → Stops g rest →
      Judged o c rest (chain_at p q (ws ++ rest))
  chain_complete ws c o rest (us, vs, k, l, parts, pu, qv, f) e =
      let one = ep.complete us c.0 k (vs ++ rest) pu (fits.before c.0 vs rest c.1 l qv e) in
      let two = (eq c.0).complete vs c.1 l rest qv (fits.after c.0 vs rest c.1 l qv e) in
      let way : ws ++ rest ≡ us ++ (vs ++ rest) = rw parts (append_assoc us vs rest) in
      judged_is o (first k l) c rest (chain_at p q (ws ++ rest)) (sym f)
      (judged_read (first k l) c rest (chain_at p q (ws ++ rest)) (chain_at p q (us ++ (vs ++ rest)))
      (ap (λ (z : List T). chain_at p q z) way)
      (chain_judged k l c.0 c.1 (vs ++ rest) rest (p (us ++ (vs ++ rest))) one two))

  chain_stuck : (ls : List T) (k : Kind) (rest : List T) → chain_at p q ls ≡ bad k rest →
      Stuck fresh (Chain P Q) (chain_at p q) ls k rest
  chain_stuck ls k rest e =
      elim (bind_bad (p ls) (pair_at q) k rest e) [
        | inl h ↦
            let s = ep.stuck ls k rest h in
            record {
              front = s.front;
              parts = s.parts;
              stays = λ x r z h2. ap (λ (y : Read T F A). y >>= pair_at q) (s.stays x r z h2);
              goes = elim s.goes [
                | inl none ↦ inl none
                | inr go ↦ inr (let c = some (s.front ++ go.more) go.value go.fault go.means in record {
                  more = go.more ++ c.tokens;
                  value = (go.value, c.value);
                  fault = first go.fault c.fault;
                  means = (
                    s.front ++ go.more,
                    c.tokens,
                    go.fault,
                    c.fault,
                    sym (append_assoc s.front go.more c.tokens),
                    go.means,
                    c.means,
                    refl,
                  );
                  mild = mild_first fresh go.fault c.fault go.mild c.mild;
                })
              ];
            }
        | inr t ↦ elim (bind_bad (q t.value t.rest) (λ b s. got (t.value, b) s) k rest t.second) [
          | inl h ↦
              let x = ep.sound ls t.value t.rest t.first in
              let y = (eq t.value).stuck t.rest k rest h in
              record {
                front = x.front ++ y.front;
                parts = x.parts ∙ ap (λ (z : List T). x.front ++ z) y.parts ∙ sym (append_assoc x.front y.front rest);
                stays = λ w r z h2.
                    let one = then_goes P p ls t.value t.rest x y.front w r z
                    (y.parts ∙ ap (λ (m : List T). y.front ++ m) h2) in
                    ap (λ (m : List T). chain_at p q m) (append_assoc x.front y.front (w ∷ z)) ∙
                    ap (λ (m : Read T F A). m >>= pair_at q) one ∙
                    ap (λ (m : Read T F B). m >>= λ b s. got (t.value, b) s) (y.stays w r z h2);
                goes = elim y.goes [
                  | inl none ↦ inr (let c = some x.front t.value None x.means in record {
                    more = c.tokens;
                    value = (t.value, c.value);
                    fault = c.fault;
                    means = (
                      x.front,
                      c.tokens,
                      None,
                      c.fault,
                      rw none (append_assoc x.front [] c.tokens),
                      x.means,
                      c.means,
                      refl,
                    );
                    mild = c.mild;
                  })
                  | inr go ↦ inr (record {
                    more = go.more;
                    value = (t.value, go.value);
                    fault = go.fault;
                    means = (
                      x.front,
                      y.front ++ go.more,
                      None,
                      go.fault,
                      append_assoc x.front y.front go.more,
                      x.means,
                      go.means,
                      refl,
                    );
                    mild = go.mild;
                  })
                ];
              }
          | inr u ↦ let h = u.second in absurd cc
        ]
      ]

  chain_passed : (ls : List T) (f : F) (rest : List T) → chain_at p q ls ≡ over f rest →
      Passed (Chain P Q) (chain_at p q) ls f rest
  chain_passed ls f rest e =
      elim (bind_over (p ls) (pair_at q) f rest e) [
        | inl h ↦
            let s = ep.passed ls f rest h in
            let c = some ((s.front ++ s.last ∷ []) ++ s.begun.more) s.begun.value s.begun.fault s.begun.means in
            record {
              front = s.front;
              last = s.last;
              parts = s.parts;
              stays = λ z. ap (λ (y : Read T F A). y >>= pair_at q) (s.stays z);
              begun = record {
                more = s.begun.more ++ c.tokens;
                value = (s.begun.value, c.value);
                fault = first s.begun.fault c.fault;
                means = (
                  (s.front ++ s.last ∷ []) ++ s.begun.more,
                  c.tokens,
                  s.begun.fault,
                  c.fault,
                  sym (append_assoc (s.front ++ s.last ∷ []) s.begun.more c.tokens),
                  s.begun.means,
                  c.means,
                  refl,
                );
              };
            }
        | inr t ↦ elim (bind_over (q t.value t.rest) (λ b s. got (t.value, b) s) f rest t.second) [
          | inl h ↦
              let x = ep.sound ls t.value t.rest t.first in
              let y = (eq t.value).passed t.rest f rest h in
              record {
                front = x.front ++ y.front;
                last = y.last;
                parts = x.parts ∙ ap (λ (z : List T). x.front ++ z) y.parts ∙
                    sym (append_assoc x.front y.front (y.last ∷ rest));
                stays = λ z.
                    let one = then_goes P p ls t.value t.rest x y.front y.last rest z y.parts in
                    ap (λ (m : List T). chain_at p q m) (append_assoc x.front y.front (y.last ∷ z)) ∙
                    ap (λ (m : Read T F A). m >>= pair_at q) one ∙
                    ap (λ (m : Read T F B). m >>= λ b s. got (t.value, b) s) (y.stays z);
                begun = record {
                  more = y.begun.more;
                  value = (t.value, y.begun.value);
                  fault = y.begun.fault;
                  means = (
                    x.front,
                    (y.front ++ y.last ∷ []) ++ y.begun.more,
                    None,
                    y.begun.fault,
                    ap (λ (z : List T). z ++ y.begun.more) (append_assoc x.front y.front (y.last ∷ [])) ∙
                        append_assoc x.front (y.front ++ y.last ∷ []) y.begun.more,
                    x.means,
                    y.begun.means,
                    refl,
                  );
                };
              }
          | inr u ↦ let h = u.second in absurd cc
        ]
      ]

  pub chain_exact : Exact fresh (Chain P Q) g (chain_at p q)
  chain_exact = record { sound = chain_sound; complete = chain_complete; stuck = chain_stuck; passed = chain_passed }

-- ---- one or another

pub record Choice {T F A : Type 0} (test : List T → Bool) (P : Phrase T F A) (p : Reader T F A) (Q : Phrase T F A)
    (q : Reader T F A) (g : T → Bool) : Type 0 where
  pub left : (us rest : List T) (a : A) (o : Option F) → P us a o → test (us ++ rest) ≡ true
  pub right : (us rest : List T) (a : A) (o : Option F) → Q us a o → Stops g rest → test (us ++ rest) ≡ false
  -- what is chosen is settled where reading ends or stops
  pub left_bad : (front : List T) (x : T) (r s : List T) (k : Kind) →
      ((z : List T) → p (front ++ x ∷ z) ≡ bad k (x ∷ z)) → test (front ++ x ∷ r) ≡ true →
      either_at test p q (front ++ x ∷ s) ≡ bad k (x ∷ s)
  pub left_over : (front : List T) (x : T) (r s : List T) (f : F) →
      ((z : List T) → p (front ++ x ∷ z) ≡ over f z) → test (front ++ x ∷ r) ≡ true →
      either_at test p q (front ++ x ∷ s) ≡ over f s
  pub right_got : (front : List T) (x : T) (r s : List T) (a : A) → Q front a None →
      test (front ++ x ∷ r) ≡ false → test (front ++ x ∷ s) ≡ false
  pub right_bad : (front : List T) (x : T) (r s : List T) (k : Kind) →
      ((z : List T) → q (front ++ x ∷ z) ≡ bad k (x ∷ z)) → test (front ++ x ∷ r) ≡ false →
      either_at test p q (front ++ x ∷ s) ≡ bad k (x ∷ s)
  pub right_over : (front : List T) (x : T) (r s : List T) (f : F) →
      ((z : List T) → q (front ++ x ∷ z) ≡ over f z) → test (front ++ x ∷ r) ≡ false →
      either_at test p q (front ++ x ∷ s) ≡ over f s

pub chosen : {A : Type 0} (b : Bool) (x y z : A) → cond b x y ≡ z → ((b ≡ true) × (x ≡ z)) ⊎ ((b ≡ false) × (y ≡ z))
chosen true x y z e = inl (refl, e)
chosen false x y z e = inr (refl, e)

module _ {T F A : Type 0} (fresh : F → Type 0) (test : List T → Bool) (P : Phrase T F A) (p : Reader T F A)
    (Q : Phrase T F A) (q : Reader T F A) (gP gQ g : T → Bool)
    (ep : Exact fresh P gP p) (eq : Exact fresh Q gQ q)
    (wider : (ls : List T) → Stops g ls → Stops gP ls × Stops gQ ls) (ch : Choice test P p Q q g) where
  or_sound : (ls : List T) (a : A) (rest : List T) → either_at test p q ls ≡ got a rest →
      Splits (P or Q) (either_at test p q) ls a rest
  or_sound ls a rest e =
      elim (chosen (test ls) (p ls) (q ls) (got a rest) e) [
        | inl c ↦
            let s = ep.sound ls a rest c.1 in
            record {
              front = s.front;
              parts = s.parts;
              means = inl s.means;
              stays = λ x r z h. rw (ch.left s.front (x ∷ z) a None s.means) (s.stays x r z h);
            }
        | inr c ↦
            let s = eq.sound ls a rest c.1 in
            record {
              front = s.front;
              parts = s.parts;
              means = inr s.means;
              stays = λ x r z h.
                  let whole : ls ≡ s.front ++ x ∷ r = s.parts ∙ ap (λ (m : List T). s.front ++ m) h in
                  rw (ch.right_got s.front x r z a s.means (sym (ap test whole) ∙ c.0)) (s.stays x r z h);
            }
      ]

  or_complete : (us : List T) (a : A) (o : Option F) (rest : List T) →
      (P or Q) us a o → Stops g rest → Judged o a rest (either_at test p q (us ++ rest))
  or_complete us a o rest (inl m) e = rw (ch.left us rest a o m) (ep.complete us a o rest m (wider rest e).0)
  or_complete us a o rest (inr m) e = rw (ch.right us rest a o m e) (eq.complete us a o rest m (wider rest e).1)

  or_stuck : (ls : List T) (k : Kind) (rest : List T) → either_at test p q ls ≡ bad k rest →
      Stuck fresh (P or Q) (either_at test p q) ls k rest
  or_stuck ls k rest e =
      elim (chosen (test ls) (p ls) (q ls) (bad k rest) e) [
        | inl c ↦
            let s = ep.stuck ls k rest c.1 in
            record {
              front = s.front;
              parts = s.parts;
              stays = λ x r z h.
                  let whole : ls ≡ s.front ++ x ∷ r = s.parts ∙ ap (λ (m : List T). s.front ++ m) h in
                  ch.left_bad s.front x r z k (λ w. s.stays x r w h) (sym (ap test whole) ∙ c.0);
              goes = elim s.goes [
                | inl none ↦ inl none
                | inr go ↦
                    inr (record {
                      more = go.more;
                      value = go.value;
                      fault = go.fault;
                      means = inl go.means;
                      mild = go.mild;
                    })
              ];
            }
        | inr c ↦
            let s = eq.stuck ls k rest c.1 in
            record {
              front = s.front;
              parts = s.parts;
              stays = λ x r z h.
                  let whole : ls ≡ s.front ++ x ∷ r = s.parts ∙ ap (λ (m : List T). s.front ++ m) h in
                  ch.right_bad s.front x r z k (λ w. s.stays x r w h) (sym (ap test whole) ∙ c.0);
              goes = elim s.goes [
                | inl none ↦ inl none
                | inr go ↦
                    inr (record {
                      more = go.more;
                      value = go.value;
                      fault = go.fault;
                      means = inr go.means;
                      mild = go.mild;
                    })
              ];
            }
      ]

  or_passed : (ls : List T) (f : F) (rest : List T) → either_at test p q ls ≡ over f rest →
      Passed (P or Q) (either_at test p q) ls f rest
  or_passed ls f rest e =
      elim (chosen (test ls) (p ls) (q ls) (over f rest) e) [
        | inl c ↦
            let s = ep.passed ls f rest c.1 in
            record {
              front = s.front;
              last = s.last;
              parts = s.parts;
              stays = λ z. ch.left_over s.front s.last rest z f s.stays (sym (ap test s.parts) ∙ c.0);
              begun = record {
                more = s.begun.more;
                value = s.begun.value;
                fault = s.begun.fault;
                means = inl s.begun.means;
              };
            }
        | inr c ↦
            let s = eq.passed ls f rest c.1 in
            record {
              front = s.front;
              last = s.last;
              parts = s.parts;
              stays = λ z. ch.right_over s.front s.last rest z f s.stays (sym (ap test s.parts) ∙ c.0);
              begun = record {
                more = s.begun.more;
                value = s.begun.value;
                fault = s.begun.fault;
                means = inr s.begun.means;
              };
            }
      ]

  pub or_exact : Exact fresh (P or Q) g (either_at test p q)
  or_exact = record { sound = or_sound; complete = or_complete; stuck = or_stuck; passed = or_passed }
