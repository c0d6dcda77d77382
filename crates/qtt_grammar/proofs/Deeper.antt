-- Readers of levels inside which one more may open.
use Rattle.std.proofs.Common.{◌≡◌, ℕ, zero, suc, ◌≤◌, Bool, true, false, cond, ◌&&◌, List, [], ◌∷◌, length, Option, None, refl, arith, inl, inr}
use Rattle.qtt_phrase.specs.Reading.{Kind, Read, ◌>>=◌, token_at, chain_at, then_at, making_at, begins, either_at, perhaps_at, ended, run_at, all_at, placed_at, cap_at}
use Rattle.qtt_phrase.specs.Reading.Kind.{unexpected, too_deep}
use Rattle.qtt_phrase.specs.Reading.Read.{got, bad, over}
use Rattle.qtt_phrase.proofs.Deeper.{left_of, SameOr, Deepens, CapGrows, chain_deepens, making_deepens, either_deepens, perhaps_deepens, all_deepens, token_deepens, open_deepens, closed_deepens, placed_deepens, cap_deepens}
use Rattle.qtt_base.specs.declared.place.Span.{Span}
use Rattle.qtt_grammar.specs.declared.class.Class.{Class}
use Rattle.qtt_grammar.specs.declared.stop.Excess.{Excess}
use Rattle.qtt_grammar.specs.declared.lexeme.Lexeme.{Lexeme}
use Rattle.qtt_grammar.specs.Grammar.{of, place}
use Rattle.qtt_grammar.specs.Readers.{Reads, symbol_at, opener_at}

-- reading adds no token
abbrev pub Keeps : {A : Type 0} → Reads A → Type 0
Keeps q = (ls : List Lexeme) → length (left_of (q ls)) ≤ length ls

-- The second reader adds no token, and where levels may open in the first, it reads the same, but where
-- a level was refused, and there it reads further.
pub record Deep (may : Bool) {A : Type 0} (p q : Reads A) : Type 0 where
  pub deepens : may ≡ true → Deepens p q
  pub keeps : Keeps q

pub always : {A : Type 0} {p q : Reads A} (may : Bool) → Deepens p q → Deep may p q
always may d = record { deepens = λ e. d; keeps = d.keeps }

-- ---- reading adds no token

bind_keeps : {A B : Type 0} (r : Read Lexeme Excess A) (g : A → List Lexeme → Read Lexeme Excess B) (n : ℕ) →
    length (left_of r) ≤ n → ((a : A) (ls : List Lexeme) → length (left_of (g a ls)) ≤ length ls) →
    length (left_of (r >>= g)) ≤ n
bind_keeps (got a ls) g n h k = omega (arith, h, k a ls)
bind_keeps (bad x ls) g n h k = h
bind_keeps (over f ls) g n h k = h

chain_keeps : {A B : Type 0} (p : Reads A) (q : A → Reads B) → Keeps p → ((a : A) → Keeps (q a)) → Keeps (chain_at p q)
chain_keeps p q d e ls = bind_keeps (p ls) (λ a r. q a r >>= λ b s. got (a, b) s) (length ls) (d ls)
    (λ a r. bind_keeps (q a r) (λ b s. got (a, b) s) (length r) (e a r) (λ b s. omega arith))

making_keeps : {A B : Type 0} (f : A → B) (p : Reads A) → Keeps p → Keeps (making_at f p)
making_keeps f p d ls = bind_keeps (p ls) (λ a r. got (f a) r) (length ls) (d ls) (λ a r. omega arith)

cond_keeps : {A : Type 0} (b : Bool) (u v : Read Lexeme Excess A) (n : ℕ) → length (left_of u) ≤ n →
    length (left_of v) ≤ n → length (left_of (cond b u v)) ≤ n
cond_keeps true u v n d e = d
cond_keeps false u v n d e = e

either_keeps : {A : Type 0} (test : List Lexeme → Bool) (p q : Reads A) → Keeps p → Keeps q → Keeps (either_at test p q)
either_keeps test p q d e ls = cond_keeps (test ls) (p ls) (q ls) (length ls) (d ls) (e ls)

perhaps_keeps : {A : Type 0} (t : Lexeme → Bool) (none : A) (p : Reads A) → Keeps p → Keeps (perhaps_at t none p)
perhaps_keeps t none p d ls = cond_keeps (begins t ls) (p ls) (got none ls) (length ls) (d ls) (omega arith)

ended_keeps : (A : Type 0) (b : Bool) (ls : List Lexeme) →
    length (left_of (ended {F = Excess} {A = A} b ls)) ≤ length ls
ended_keeps A true ls = omega arith
ended_keeps A false ls = omega arith

module _ {A S : Type 0} (ends goes : S → Bool) (next : S → A → S) (test : S → Lexeme → Bool) (q : S → Reads A)
    (d : (s : S) → Keeps (q s)) where
  run_keeps : (n : ℕ) (s : S) → Keeps (run_at ends goes next test q n s)
  run_keeps zero s ls = ended_keeps A (ends s) ls
  run_keeps (suc n) s ls = cond_keeps (goes s && begins (test s) ls)
      (q s ls >>= λ a r. run_at ends goes next test q n (next s a) r >>= λ b t. got (a ∷ b) t) (ended (ends s) ls)
      (length ls)
      (bind_keeps (q s ls) (λ a r. run_at ends goes next test q n (next s a) r >>= λ b t. got (a ∷ b) t)
      (length ls) (d s ls) (λ a r. bind_keeps (run_at ends goes next test q n (next s a) r)
      (λ b t. got (a ∷ b) t) (length r) (run_keeps n (next s a) r) (λ b t. omega arith)))
      (ended_keeps A (ends s) ls)

placed_keeps : {A : Type 0} (p : Reads A) → Keeps p → Keeps (placed_at place p)
placed_keeps p d [] = omega arith
placed_keeps p d (x ∷ ls) =
    bind_keeps (p (x ∷ ls)) (λ a r. got (place x, a) r) (length (x ∷ ls)) (d (x ∷ ls)) (λ a r. omega arith)

cap_keeps : (A : Type 0) (is : Lexeme → Bool) (kind : Lexeme → Kind) (fault : Lexeme → Excess) →
    Keeps (cap_at {A = A} is kind fault)
cap_keeps A is kind fault [] = omega arith
cap_keeps A is kind fault (x ∷ ls) =
    cond_keeps {A = A} (is x) (over (fault x) ls) (bad (kind x) (x ∷ ls)) (length (x ∷ ls)) (omega arith)
    (omega arith)

-- ---- what readers are made of

module _ {may : Bool} where
  pub chain : {A B : Type 0} {p p2 : Reads A} {q q2 : A → Reads B} → Deep may p p2 →
      ((a : A) → Deep may (q a) (q2 a)) → Deep may (chain_at p q) (chain_at p2 q2)
  chain {p2} {q2} d e = record {
    deepens = λ m. chain_deepens (d.deepens m) (λ a. (e a).deepens m);
    keeps = chain_keeps p2 q2 d.keeps (λ a. (e a).keeps);
  }

  infixr 6 ◌andthen◌
  pub ◌andthen◌ : {A B : Type 0} {p p2 : Reads A} {q q2 : Reads B} → Deep may p p2 → Deep may q q2 →
      Deep may (then_at p q) (then_at p2 q2)
  d andthen e = chain d (λ _. e)

  pub making : {A B : Type 0} {p p2 : Reads A} (f : A → B) → Deep may p p2 → Deep may (making_at f p) (making_at f p2)
  making {p2} f d = record { deepens = λ m. making_deepens f (d.deepens m); keeps = making_keeps f p2 d.keeps }

  pub either : {A : Type 0} {p p2 q q2 : Reads A} (test : List Lexeme → Bool) → Deep may p p2 → Deep may q q2 →
      Deep may (either_at test p q) (either_at test p2 q2)
  either {p2} {q2} test d e =
      record {
        deepens = λ m. either_deepens test (d.deepens m) (e.deepens m);
        keeps = either_keeps test p2 q2 d.keeps e.keeps;
      }

  pub perhaps : {A : Type 0} {p p2 : Reads A} (t : Lexeme → Bool) (none : A) → Deep may p p2 →
      Deep may (perhaps_at t none p) (perhaps_at t none p2)
  perhaps {p2} t none d = record
      { deepens = λ m. perhaps_deepens t none (d.deepens m); keeps = perhaps_keeps t none p2 d.keeps }

  pub all : {A S : Type 0} (ends goes : S → Bool) (next : S → A → S)
      (test : S → Lexeme → Bool) {p q : S → Reads A} → ((s : S) → Deep may (p s) (q s)) →
      (s : S) → Deep may (all_at ends goes next test p s) (all_at ends goes next test q s)
  all ends goes next test {p} {q} d s = record {
    deepens = λ m. all_deepens ends goes next test p q (λ s. (d s).deepens m) s;
    keeps = λ ls. run_keeps ends goes next test q (λ s. (d s).keeps) (length ls) s ls;
  }

  pub token : {A : Type 0} (faults : Lexeme → Option Excess) (is : Lexeme → Bool) (value : Lexeme → A) →
      Deep may (token_at faults is value) (token_at faults is value)
  token faults is value = always may (token_deepens faults is value)

  pub symbol : (is : Class → Bool) → Deep may (symbol_at is) (symbol_at is)
  symbol is = token (λ _. None) (of is) place

  pub placed : {A : Type 0} {p p2 : Reads A} → Deep may p p2 → Deep may (placed_at place p) (placed_at place p2)
  placed {p} {p2} d = record { deepens = λ m. placed_deepens place p p2 (d.deepens m); keeps = placed_keeps p2 d.keeps }

  pub capped : (A : Type 0) {is is2 : Lexeme → Bool} {kind kind2 : Lexeme → Kind} (fault : Lexeme → Excess) →
      (may ≡ true → CapGrows is is2 kind kind2) → Deep may (cap_at {A = A} is kind fault) (cap_at is2 kind2 fault)
  capped A {is} {is2} {kind} {kind2} fault c =
      record { deepens = λ m. cap_deepens A is is2 kind kind2 fault (c m); keeps = cap_keeps A is2 kind2 fault }

-- behind a token that opens a level
opened_by : {B : Type 0} (b may : Bool) (is : Class → Bool) (q q2 : Reads B) → b ≡ may → Deep may q q2 →
    Deepens (then_at (opener_at b is) q) (then_at (opener_at true is) q2)
opened_by true may is q q2 e d = chain_deepens (open_deepens Excess (of is) place) (λ _. d.deepens (let h = e in cc))
opened_by false may is q q2 e d = closed_deepens (of is) place (λ _. q) (λ _. q2) (λ _. d.keeps)

pub opened : {B : Type 0} {q q2 : Reads B} (o may : Bool) (is : Class → Bool) → Deep may q q2 →
    Deep o (then_at (opener_at may is) q) (then_at (opener_at true is) q2)
opened {q} {q2} o may is d = always o (opened_by may may is q q2 refl d)

-- the same where another reader follows what such a token opens
module _ {A B D : Type 0} (v : Span) (x : Lexeme) (ls : List Lexeme)
    (f g : Span → List Lexeme → Read Lexeme Excess A) (m : A → List Lexeme → Read Lexeme Excess B)
    (h k : B → List Lexeme → Read Lexeme Excess D) where
  closed_at : (b : Bool) → ((s : Span) (r : List Lexeme) → length (left_of (g s r)) ≤ length r) →
      ((a : A) (r : List Lexeme) → length (left_of (m a r)) ≤ length r) →
      ((a : B) (r : List Lexeme) → length (left_of (k a r)) ≤ length r) →
      SameOr (((cond {A = Read Lexeme Excess Span} b (bad too_deep (x ∷ ls)) (bad unexpected (x ∷ ls)) >>= f) >>=
      m) >>= h) (((cond {A = Read Lexeme Excess Span} b (got v ls) (bad unexpected (x ∷ ls)) >>= g) >>= m) >>= k)
  closed_at true gs ms ks =
      inr (record {
        rest = x ∷ ls;
        refused = refl;
        further = (let w = bind_keeps (g v ls >>= m) k (length ls) (bind_keeps (g v ls) m (length ls) (gs v ls) ms)
            ks in omega (arith, w));
      })
  closed_at false gs ms ks = inl (refl, tt)

module _ {B C D : Type 0} (is : Class → Bool) (f : Span × B → C) (q q2 : Reads B) (w w2 : Reads D) where
  abbrev opening : Bool → Reads B → Reads C
  opening may r = making_at f (then_at (opener_at may is) r)

  closed_then_at : Keeps q2 → Keeps w2 →
      (ls : List Lexeme) → SameOr (then_at (opening false q) w ls) (then_at (opening true q2) w2 ls)
  closed_then_at k l [] = inl (refl, tt)
  closed_then_at k l (x ∷ ls) = closed_at x.place x ls
      (λ s r. q r >>= λ b t. got (s, b) t)
      (λ s r. q2 r >>= λ b t. got (s, b) t)
      (λ c r. got (f c) r)
      (λ c r. w r >>= λ b u. got (c, b) u)
      (λ c r. w2 r >>= λ b u. got (c, b) u)
      (is x.class)
      (λ s r. bind_keeps (q2 r) (λ b t. got (s, b) t) (length r) (k r) (λ b t. omega arith))
      (λ c r. omega arith)
      (λ c r. bind_keeps (w2 r) (λ b u. got (c, b) u) (length r) (l r) (λ b u. omega arith))

  behind_by : (b may : Bool) → b ≡ may → Deep may q q2 → Deep may w w2 →
      Deepens (then_at (opening b q) w) (then_at (opening true q2) w2)
  behind_by true may e d z =
      chain_deepens (making_deepens f (opened_by true may is q q2 e d)) (λ _. z.deepens (let h = e in cc))
  behind_by false may e d z =
      record {
        at = closed_then_at d.keeps z.keeps;
        keeps = chain_keeps (opening true q2) (λ _. w2)
            (making_keeps f (then_at (opener_at true is) q2) (opened_by false may is q q2 e d).keeps) (λ _. z.keeps);
      }

pub behind : {B C D : Type 0} {q q2 : Reads B} {w w2 : Reads D} (o may : Bool) (is : Class → Bool)
    (f : Span × B → C) → Deep may q q2 → Deep may w w2 →
    Deep o (then_at (making_at f (then_at (opener_at may is) q)) w)
    (then_at (making_at f (then_at (opener_at true is) q2)) w2)
behind {q} {q2} {w} {w2} o may is f d z = always o (behind_by is f q q2 w w2 may may refl d z)
