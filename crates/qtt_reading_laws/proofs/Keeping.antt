-- What reading keeps: a value whose places are those of the tokens, a fault at one of them, and the tokens behind.
-- Where the first reader gets a value, the second one gets the same.
use Rattle.std.proofs.Common.{◌≡◌, ℕ, zero, suc, Bool, true, false, cond, ◌&&◌, List, [], ◌∷◌, length, Option, Some, None, refl, sym, ap, subst}
use Rattle.qtt_base.specs.declared.place.Span.{Span}
use Rattle.qtt_base.specs.declared.limits.Quantity.{Quantity}
use Rattle.qtt_phrase.specs.Reading.{Kind, Read, ◌>>=◌, judge, token_at, chain_at, then_at, making_at, begins, either_at, perhaps_at, ended, run_at, all_at, many_at, counted_at, placed_at, cap_at}
use Rattle.qtt_phrase.specs.Reading.Kind.{unexpected, too_deep}
use Rattle.qtt_phrase.specs.Reading.Read.{got, bad, over}
use Rattle.qtt_grammar.specs.declared.class.Class.{Class}
use Rattle.qtt_grammar.specs.declared.class.Pass.{Pass}
use Rattle.qtt_grammar.specs.declared.lexeme.Lexeme.{Lexeme}
use Rattle.qtt_grammar.specs.declared.stop.Excess.{Excess}
use Rattle.qtt_grammar.specs.Grammar.{of, place, local_of}
use Rattle.qtt_grammar.specs.Limits.{is_full, one_above}
use Rattle.qtt_grammar.specs.Readers.{Reads, symbol_at, opener_at, local_at, up_to_at}
use Rattle.qtt_syntax.specs.declared.expr.Local.{Local}
use Rattle.qtt_reading_laws.specs.Standing.{Each}

abbrev pub Reading : Type 0 → Type 0
Reading A = Read Lexeme Excess A

module _ (P : Span → Type 0) where
  -- P holds where a token stands
  abbrev pub Fair : Lexeme → Type 0
  Fair x = P x.place × P x.number_place

  abbrev pub Placed_fault : Option Excess → Type 0
  Placed_fault None = Unit {0}
  Placed_fault (Some e) = P e.place

  abbrev pub Kept : {A : Type 0} → (A → Type 0) → Reading A → Reading A → Type 0
  Kept R (got a rest) other = (other ≡ got a rest) × (R a × Each Fair rest)
  Kept R (bad k rest) other = Each Fair rest
  Kept R (over e rest) other = P e.place

  pub record Keeps {A : Type 0} (p q : Reads A) (R : A → Type 0) : Type 0 where
    pub at : (ls : List Lexeme) → Each Fair ls → Kept R (p ls) (q ls)

  -- ---- steps

  bind_kept : {A B : Type 0} (R : A → Type 0) (S : B → Type 0) (r s : Reading A) (f g : A → List Lexeme → Reading B) →
      Kept R r s → ((a : A) (rest : List Lexeme) → R a → Each Fair rest → Kept S (f a rest) (g a rest)) →
      Kept S (r >>= f) (s >>= g)
  bind_kept R S (got a rest) s f g h k =
      subst (λ (z : Reading _). Kept S (f a rest) (z >>= g)) (sym h.0) (k a rest h.1.0 h.1.1)
  bind_kept R S (bad c rest) s f g h k = h
  bind_kept R S (over e rest) s f g h k = h

  cond_kept : {A : Type 0} (R : A → Type 0) (b : Bool) (r s t u : Reading A) → Kept R r t → Kept R s u →
      Kept R (cond b r s) (cond b t u)
  cond_kept R true r s t u h k = h
  cond_kept R false r s t u h k = k

  -- ---- the forms of readers

  judge_kept : {A : Type 0} (R : A → Type 0) (o p : Option Excess) (v : A) (ls : List Lexeme) → R v → Each Fair ls →
      Placed_fault o → (o ≡ None → p ≡ None) → Kept R (judge o v ls) (judge p v ls)
  judge_kept R None p v ls r fair h k = (ap (λ (z : Option Excess). judge z v ls) (k refl), (r, fair))
  judge_kept R (Some e) p v ls r fair h k = h

  token_case : {A : Type 0} (R : A → Type 0) (faults more : Lexeme → Option Excess) (is : Lexeme → Bool)
      (value : Lexeme → A) → ((x : Lexeme) → Fair x → R (value x)) → ((x : Lexeme) → Fair x → Placed_fault (faults x)) →
      ((x : Lexeme) → faults x ≡ None → more x ≡ None) → (ls : List Lexeme) → Each Fair ls →
      Kept R (token_at faults is value ls) (token_at more is value ls)
  token_case R faults more is value r h k [] fair = tt
  token_case R faults more is value r h k (x ∷ ls) fair =
      cond_kept R (is x) (judge (faults x) (value x) ls) (bad unexpected (x ∷ ls)) (judge (more x) (value x) ls)
      (bad unexpected (x ∷ ls))
      (judge_kept R (faults x) (more x) (value x) ls (r x fair.0) fair.1 (h x fair.0) (k x)) fair

  pub weighed : {A : Type 0} {R : A → Type 0} (faults more : Lexeme → Option Excess) (is : Lexeme → Bool)
      (value : Lexeme → A) → ((x : Lexeme) → Fair x → R (value x)) → ((x : Lexeme) → Fair x → Placed_fault (faults x)) →
      ((x : Lexeme) → faults x ≡ None → more x ≡ None) → Keeps (token_at faults is value) (token_at more is value) R
  weighed {R} faults more is value r h k =
      record { at = λ ls fair. token_case R faults more is value r h k ls fair }

  pub token : {A : Type 0} {R : A → Type 0} (is : Lexeme → Bool) (value : Lexeme → A) →
      ((x : Lexeme) → Fair x → R (value x)) → Keeps (token_at (λ _. None) is value) (token_at (λ _. None) is value) R
  token is value r = weighed (λ _. None) (λ _. None) is value r (λ x fair. tt) (λ x e. refl)

  pub symbol : (is : Class → Bool) → Keeps (symbol_at is) (symbol_at is) P
  symbol is = token (of is) place (λ x fair. fair.0)

  abbrev pub Local_stands : Local → Type 0
  Local_stands n = P n.span

  pub a_local : (is : Class → Bool) → Keeps (local_at is) (local_at is) Local_stands
  a_local is = token (of is) local_of (λ x fair. fair.0)

  opening_case : (may : Bool) (is : Class → Bool) (ls : List Lexeme) → Each Fair ls →
      Kept P (opener_at may is ls) (opener_at may is ls)
  opening_case may is [] fair = tt
  opening_case may is (x ∷ ls) fair =
      let deep : Reading Span = cond may (got x.place ls) (bad too_deep (x ∷ ls)) in
      cond_kept P (of is x) deep (bad unexpected (x ∷ ls)) deep (bad unexpected (x ∷ ls))
      (cond_kept P may (got x.place ls) (bad too_deep (x ∷ ls)) (got x.place ls) (bad too_deep (x ∷ ls))
      (refl, (fair.0.0, fair.1)) fair) fair

  pub opener : (may : Bool) (is : Class → Bool) → Keeps (opener_at may is) (opener_at may is) P
  opener may is = record { at = λ ls fair. opening_case may is ls fair }

  pub chain : {A B : Type 0} {R : A → Type 0} {S : B → Type 0} {p p2 : Reads A} {q q2 : A → Reads B} → Keeps p p2 R →
      ((a : A) → R a → Keeps (q a) (q2 a) S) → Keeps (chain_at p q) (chain_at p2 q2) (λ c. R c.0 × S c.1)
  chain {A} {B} {R} {S} {p} {p2} {q} {q2} d e = record {
    at = λ ls fair.
        bind_kept R (λ (c : A × B). R c.0 × S c.1) (p ls) (p2 ls) (λ a r. q a r >>= λ b s. got (a, b) s)
        (λ a r. q2 a r >>= λ b s. got (a, b) s) (d.at ls fair)
        (λ a rest r fair2.
        bind_kept S (λ (c : A × B). R c.0 × S c.1) (q a rest) (q2 a rest) (λ b s. got (a, b) s)
        (λ b s. got (a, b) s) ((e a r).at rest fair2) (λ b more s fair3. (refl, ((r, s), fair3))));
  }

  infixr 6 ◌andthen◌
  pub ◌andthen◌ : {A B : Type 0} {R : A → Type 0} {S : B → Type 0} {p p2 : Reads A} {q q2 : Reads B} → Keeps p p2 R →
      Keeps q q2 S → Keeps (then_at p q) (then_at p2 q2) (λ c. R c.0 × S c.1)
  d andthen e = chain d (λ a r. e)

  pub making : {A B : Type 0} {R : A → Type 0} {S : B → Type 0} {p p2 : Reads A} (f : A → B) →
      ((a : A) → R a → S (f a)) → Keeps p p2 R → Keeps (making_at f p) (making_at f p2) S
  making {R} {S} {p} {p2} f g d = record {
    at = λ ls fair.
        bind_kept R S (p ls) (p2 ls) (λ a r. got (f a) r) (λ a r. got (f a) r) (d.at ls fair)
        (λ a rest r fair2. (refl, (g a r, fair2)));
  }

  pub either : {A : Type 0} {R : A → Type 0} {p p2 q q2 : Reads A} (test : List Lexeme → Bool) → Keeps p p2 R →
      Keeps q q2 R → Keeps (either_at test p q) (either_at test p2 q2) R
  either {R} {p} {p2} {q} {q2} test d e =
      record { at = λ ls fair. cond_kept R (test ls) (p ls) (q ls) (p2 ls) (q2 ls) (d.at ls fair) (e.at ls fair) }

  pub perhaps : {A : Type 0} {R : A → Type 0} {p p2 : Reads A} (test : Lexeme → Bool) (none : A) → R none →
      Keeps p p2 R → Keeps (perhaps_at test none p) (perhaps_at test none p2) R
  perhaps {R} {p} {p2} test none r d = record {
    at = λ ls fair.
        cond_kept R (begins test ls) (p ls) (got none ls) (p2 ls) (got none ls) (d.at ls fair) (refl, (r, fair));
  }

  ended_kept : {A : Type 0} (R : A → Type 0) (b : Bool) (ls : List Lexeme) → Each Fair ls →
      Kept (Each R) (ended b ls) (ended b ls)
  ended_kept R true ls fair = (refl, (tt, fair))
  ended_kept R false ls fair = fair

  module _ {A S : Type 0} (R : A → Type 0) (ends goes : S → Bool) (next : S → A → S) (test : S → Lexeme → Bool)
      (p q : S → Reads A) (d : (s : S) → Keeps (p s) (q s) R) where
    run_kept : (n : ℕ) (s : S) (ls : List Lexeme) → Each Fair ls →
        Kept (Each R) (run_at ends goes next test p n s ls) (run_at ends goes next test q n s ls)
    run_kept zero s ls fair = ended_kept R (ends s) ls fair
    run_kept (suc n) s ls fair =
        cond_kept (Each R) (goes s && begins (test s) ls)
        (p s ls >>= λ a r. run_at ends goes next test p n (next s a) r >>= λ b t. got (a ∷ b) t) (ended (ends s) ls)
        (q s ls >>= λ a r. run_at ends goes next test q n (next s a) r >>= λ b t. got (a ∷ b) t) (ended (ends s) ls)
        (bind_kept R (Each R) (p s ls) (q s ls)
        (λ a r. run_at ends goes next test p n (next s a) r >>= λ b t. got (a ∷ b) t)
        (λ a r. run_at ends goes next test q n (next s a) r >>= λ b t. got (a ∷ b) t) ((d s).at ls fair)
        (λ a rest r fair2.
        bind_kept (Each R) (Each R) (run_at ends goes next test p n (next s a) rest)
        (run_at ends goes next test q n (next s a) rest) (λ b t. got (a ∷ b) t) (λ b t. got (a ∷ b) t)
        (run_kept n (next s a) rest fair2) (λ b more l fair3. (refl, ((r, l), fair3)))))
        (ended_kept R (ends s) ls fair)

  pub all : {A S : Type 0} {R : A → Type 0} {p q : S → Reads A} (ends goes : S → Bool) (next : S → A → S)
      (test : S → Lexeme → Bool) → ((s : S) → Keeps (p s) (q s) R) →
      (s : S) → Keeps (all_at ends goes next test p s) (all_at ends goes next test q s) (Each R)
  all {R} {p} {q} ends goes next test d s =
      record { at = λ ls fair. run_kept R ends goes next test p q d (length ls) s ls fair }

  pub many : {A : Type 0} {R : A → Type 0} {p q : Reads A} (test : Lexeme → Bool) → Keeps p q R →
      Keeps (many_at test p) (many_at test q) (Each R)
  many test d = all {S = Unit {0}} (λ _. true) (λ _. true) (λ _ _. tt) (λ _. test) (λ _. d) tt

  pub counted : {A S : Type 0} {R : A → Type 0} {p q : S → Reads A} (next : S → A → S) (test : Lexeme → Bool) →
      ((s : S) → Keeps (p s) (q s) R) → (s : S) → Keeps (counted_at next test p s) (counted_at next test q s) (Each R)
  counted next test d s = all (λ _. true) (λ _. true) next (λ _. test) d s

  placed_case : {A : Type 0} (R : A → Type 0) (p q : Reads A) → Keeps p q R → (ls : List Lexeme) → Each Fair ls →
      Kept (λ (c : Span × A). P c.0 × R c.1) (placed_at place p ls) (placed_at place q ls)
  placed_case R p q d [] fair = tt
  placed_case R p q d (x ∷ ls) fair =
      bind_kept R (λ c. P c.0 × R c.1) (p (x ∷ ls)) (q (x ∷ ls)) (λ a r. got (x.place, a) r)
      (λ a r. got (x.place, a) r) (d.at (x ∷ ls) fair) (λ a rest r fair2. (refl, ((fair.0.0, r), fair2)))

  pub placed : {A : Type 0} {R : A → Type 0} {p q : Reads A} → Keeps p q R →
      Keeps (placed_at place p) (placed_at place q) (λ c. P c.0 × R c.1)
  placed {R} {p} {q} d = record { at = λ ls fair. placed_case R p q d ls fair }

  cap_case : {A : Type 0} (R : A → Type 0) (is : Lexeme → Bool) (kind : Lexeme → Kind) (fault : Lexeme → Excess)
      (other : Reads A) → ((x : Lexeme) → Fair x → P (fault x).place) → (ls : List Lexeme) → Each Fair ls →
      Kept R (cap_at is kind fault ls) (other ls)
  cap_case R is kind fault other h [] fair = tt
  cap_case R is kind fault other h (x ∷ ls) fair = capped (is x)
    where
      capped : (b : Bool) → Kept R (cond b (over (fault x) ls) (bad (kind x) (x ∷ ls))) (other (x ∷ ls))
      capped true = h x fair.0
      capped false = fair

  -- where one is too many, none is got
  pub cap : {A : Type 0} {R : A → Type 0} {other : Reads A} (is : Lexeme → Bool) (kind : Lexeme → Kind)
      (fault : Lexeme → Excess) → ((x : Lexeme) → Fair x → P (fault x).place) → Keeps (cap_at is kind fault) other R
  cap {R} {other} is kind fault h = record { at = λ ls fair. cap_case R is kind fault other h ls fair }

  pub capped_or : {A : Type 0} {R : A → Type 0} {p q : Reads A} (b : Bool) (is : Lexeme → Bool)
      (kind : Lexeme → Kind) (fault : Lexeme → Excess) → ((x : Lexeme) → Fair x → P (fault x).place) → Keeps p q R →
      Keeps (cond b (cap_at is kind fault) p) q R
  capped_or true is kind fault h d = cap is kind fault h
  capped_or false is kind fault h d = d

  -- one of at most so many, against one of any number
  pub up_to : {A : Type 0} {R : A → Type 0} {p q : Reads A} (pass : Pass) (quantity : Quantity) (n : ℕ)
      (is : Lexeme → Bool) (kind : Lexeme → Kind) → Keeps p q R → Keeps (up_to_at pass quantity is kind p n) q R
  up_to pass quantity n is kind d =
      capped_or (is_full pass quantity n) is kind (λ x. one_above quantity x.place) (λ x fair. fair.0) d
