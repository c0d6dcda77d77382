-- Loops that read one after another.
use Rattle.std.proofs.Common.{◌≡◌, ℕ, zero, suc, ◌+◌, ◌-◌, ◌<◌, Bool, true, false, ◌&&◌, List, [], ◌∷◌, ◌++◌, refl, sym, ap, arith, append_assoc, ◌∙◌}
use Rattle.std.proofs.lemmas.List.{append-nil}
use Rattle.qtt_phrase.specs.Reading.{Kind, Read, ◌>>=◌, begins, run_at, ended, making_at}
use Rattle.qtt_phrase.specs.Reading.Read.{got, bad, over}
use Rattle.qtt_grammar.specs.declared.stop.Excess.{Excess}
use Rattle.qtt_grammar.specs.declared.stop.Stop.{Stop}
use Rattle.qtt_grammar.specs.declared.stop.Stop.TheVariants as stop
use Rattle.qtt_grammar.specs.declared.lexeme.Lexeme.{Lexeme}
use Rattle.qtt_grammar.specs.Readers.{Reads}
use Rattle.qtt_grammar.specs.View.{Fails, kind_of, with_front, both}

with_more : {A : Type 0} (front : List A) (a : A) (r : Read Lexeme Excess (List A)) →
    with_front front (r >>= λ b s. got (a ∷ b) s) ≡ with_front (front ++ a ∷ []) r
with_more front a (got x ls) = ap (λ (v : List _). got v ls) (sym (append_assoc front (a ∷ []) x))
with_more front a (bad k ls) = refl
with_more front a (over e ls) = refl

module _ {A S : Type 0} (ends goes : S → Bool) (next : S → A → S) (test : S → Lexeme → Bool) (p : S → Reads A)
    (front : List A) (s : S) (ls : List Lexeme) (total : Read Lexeme Excess (List A)) where
  step : (m n : ℕ) (r : List Lexeme) (a : A) → m ≡ suc n → (goes s && begins (test s) ls) ≡ true →
      p s ls ≡ got a r → with_front front (run_at ends goes next test p m s ls) ≡ with_front (front ++ a ∷ [])
      (run_at ends goes next test p n (next s a) r)
  step m n r a e b h = rw (e, b, h) (with_more front a (run_at ends goes next test p n (next s a) r))

  -- one more was read
  pub goes_on : (n i : ℕ) (r : List Lexeme) (a : A) → i < n → (goes s && begins (test s) ls) ≡ true →
      p s ls ≡ got a r → with_front front (run_at ends goes next test p (n - i) s ls) ≡ total →
      with_front (front ++ a ∷ []) (run_at ends goes next test p (n - (i + 1)) (next s a) r) ≡ total
  goes_on n i r a lt b h so_far = sym (step (n - i) (n - (i + 1)) r a (omega arith) b h) ∙ so_far

  stops_bad : (m n : ℕ) (k : Kind) (r : List Lexeme) → m ≡ suc n → (goes s && begins (test s) ls) ≡ true →
      p s ls ≡ bad k r → with_front front (run_at ends goes next test p m s ls) ≡ bad k r
  stops_bad m n k r e b h = rw (e, b, h) refl

  stops_over : (m n : ℕ) (f : Excess) (r : List Lexeme) → m ≡ suc n → (goes s && begins (test s) ls) ≡ true →
      p s ls ≡ over f r → with_front front (run_at ends goes next test p m s ls) ≡ over f r
  stops_over m n f r e b h = rw (e, b, h) refl

  -- reading one more stopped
  pub stops_by : (e : Stop) (n i : ℕ) → i < n → (goes s && begins (test s) ls) ≡ true → Fails e (p s ls) →
      with_front front (run_at ends goes next test p (n - i) s ls) ≡ total → Fails e total
  stops_by stop.Memory n i lt b h so_far = tt
  stops_by (stop.Bad r rest) n i lt b h so_far =
      sym so_far ∙ stops_bad (n - i) (n - (i + 1)) (kind_of r) rest.now (omega arith) b h
  stops_by (stop.Over f rest) n i lt b h so_far =
      sym so_far ∙ stops_over (n - i) (n - (i + 1)) f rest.now (omega arith) b h

  ends_at : (m : ℕ) → (goes s && begins (test s) ls) ≡ false →
      with_front front (run_at ends goes next test p m s ls) ≡ with_front front (ended (ends s) ls)
  ends_at zero b = refl
  ends_at (suc m) b = rw b refl

  -- no other one comes
  pub ends_here : (m : ℕ) → (goes s && begins (test s) ls) ≡ false →
      with_front front (run_at ends goes next test p m s ls) ≡ total →
      total ≡ with_front front (ended (ends s) ls)
  ends_here m b so_far = sym so_far ∙ ends_at m b

  -- all lexemes were looked at
  pub ends_out : (m : ℕ) → m ≡ 0 → with_front front (run_at ends goes next test p m s ls) ≡ total →
      total ≡ with_front front (ended (ends s) ls)
  ends_out m e so_far = sym so_far ∙ rw e refl

-- a list that need not go on ends
pub ended_got : {A : Type 0} (front : List A) (ls : List Lexeme) → with_front front (ended true ls) ≡ got front ls
ended_got front ls = ap (λ (v : List _). got v ls) (append-nil front)

-- at most so many, each read alike
abbrev pub run_alike : {A : Type 0} → (Lexeme → Bool) → Reads A → ℕ → Reads (List A)
run_alike test p n = run_at {S = Unit {0}} (λ _. true) (λ _. true) (λ _ _. tt) (λ _. test) (λ _. p) n tt

module _ {A : Type 0} (test : Lexeme → Bool) (p : Reads A) (front : List A) (ls : List Lexeme)
    (total : Read Lexeme Excess (List A)) where
  pub alike_ends : (m : ℕ) → begins test ls ≡ false → with_front front (run_alike test p m ls) ≡ total →
      total ≡ got front ls
  alike_ends m b so_far = ends_here {S = Unit {0}} (λ _. true) (λ _. true) (λ _ _. tt) (λ _. test)
      (λ _. p) front tt ls total m b so_far ∙ ended_got front ls

  pub alike_stops : (e : Stop) (n i : ℕ) → i < n → begins test ls ≡ true → Fails e (p ls) →
      with_front front (run_alike test p (n - i) ls) ≡ total → Fails e total
  alike_stops e n i lt b h so_far =
      stops_by {S = Unit {0}} (λ _. true) (λ _. true) (λ _ _. tt) (λ _. test) (λ _. p) front tt ls total e n i lt
      b h so_far

  pub alike_goes : (n i : ℕ) (r : List Lexeme) (a : A) → i < n → begins test ls ≡ true → p ls ≡ got a r →
      with_front front (run_alike test p (n - i) ls) ≡ total →
      with_front (front ++ a ∷ []) (run_alike test p (n - (i + 1)) r) ≡ total
  alike_goes n i r a lt b h so_far =
      goes_on {S = Unit {0}} (λ _. true) (λ _. true) (λ _ _. tt) (λ _. test) (λ _. p) front tt ls total n i r a lt
      b h so_far

-- a value made of what reading stopped before
pub made_stops : {A B : Type 0} (f : A → B) (p : Reads A) (ls : List Lexeme) (e : Stop) → Fails e (p ls) →
    Fails e (making_at f p ls)
made_stops f p ls stop.Memory h = tt
made_stops f p ls (stop.Bad r rest) h = rw h refl
made_stops f p ls (stop.Over x rest) h = rw h refl

-- what is read behind a front that is found already
pub record Behind {A : Type 0} (front all : List A) (rest : List Lexeme) (r : Read Lexeme Excess (List A)) : Type
    0 where
  pub more : List A
  pub read : r ≡ got more rest
  pub joins : front ++ more ≡ all

pub behind : {A : Type 0} (front all : List A) (rest : List Lexeme) (r : Read Lexeme Excess (List A)) →
    with_front front r ≡ got all rest → Behind front all rest r
behind front all rest (got more ls) h = record { more = more; read = (let e = h in cc); joins = (let e = h in cc) }
behind front all rest (bad k ls) h = absurd (let e = h in cc)
behind front all rest (over x ls) h = absurd (let e = h in cc)

pub behind_stops : {A : Type 0} (front : List A) (r : Read Lexeme Excess (List A)) (e : Stop) →
    Fails e (with_front front r) → Fails e r
behind_stops front r stop.Memory h = tt
behind_stops front (got more ls) (stop.Bad k rest) h = absurd (let e = h in cc)
behind_stops front (bad k' ls) (stop.Bad k rest) h = h
behind_stops front (over x ls) (stop.Bad k rest) h = h
behind_stops front (got more ls) (stop.Over x rest) h = absurd (let e = h in cc)
behind_stops front (bad k' ls) (stop.Over x rest) h = h
behind_stops front (over x' ls) (stop.Over x rest) h = h

-- the first one and those behind it, apart
pub record Apart {A : Type 0} (all : List A) (rest : List Lexeme) (r : Read Lexeme Excess (A × List A)) : Type 0 where
  pub first : A
  pub more : List A
  pub read : r ≡ got (first, more) rest
  pub joins : first ∷ more ≡ all

pub apart : {A : Type 0} (p : Reads (A × List A)) (ls : List Lexeme) (all : List A) (rest : List Lexeme) →
    making_at both p ls ≡ got all rest → Apart all rest (p ls)
apart p ls all rest h = apart_by (p ls) all rest h where
  apart_by : {A : Type 0} (r : Read Lexeme Excess (A × List A)) (all : List A) (rest : List Lexeme) →
      (r >>= λ a s. got (both a) s) ≡ got all rest → Apart all rest r
  apart_by (got (a, more) ls) all rest h =
      record { first = a; more = more; read = (let e = h in cc); joins = (let e = h in cc) }
  apart_by (bad k ls) all rest h = absurd (let e = h in cc)
  apart_by (over x ls) all rest h = absurd (let e = h in cc)

-- ---- loops that count what they read

abbrev pub counted_run : {A : Type 0} → (Lexeme → Bool) → (ℕ → Reads A) → ℕ → ℕ → Reads (List A)
counted_run test p m k = run_at (λ _. true) (λ _. true) (λ n _. suc n) (λ _. test) p m k

module _ {A : Type 0} (test : Lexeme → Bool) (p : ℕ → Reads A) (front : List A) (k : ℕ) (ls : List Lexeme)
    (total : Read Lexeme Excess (List A)) where
  pub counted_ends : (m : ℕ) → begins test ls ≡ false → with_front front (counted_run test p m k ls) ≡ total →
      total ≡ got front ls
  counted_ends m b so_far =
      ends_here (λ _. true) (λ _. true) (λ n _. suc n) (λ _. test) p front k ls total m b so_far ∙
      ended_got front ls

  pub counted_out : (m : ℕ) → m ≡ 0 → with_front front (counted_run test p m k ls) ≡ total → total ≡ got front ls
  counted_out m e so_far = ends_out (λ _. true) (λ _. true) (λ n _. suc n)
      (λ _. test) p front k ls total m e so_far ∙ ended_got front ls

  pub counted_stops : (e : Stop) (n i : ℕ) → i < n → begins test ls ≡ true → Fails e (p k ls) →
      with_front front (counted_run test p (n - i) k ls) ≡ total → Fails e total
  counted_stops e n i lt b h so_far =
      stops_by (λ _. true) (λ _. true) (λ n _. suc n) (λ _. test) p front k ls total e n i lt b h so_far

  pub counted_goes : (n i : ℕ) (r : List Lexeme) (a : A) → i < n → begins test ls ≡ true → p k ls ≡ got a r →
      with_front front (counted_run test p (n - i) k ls) ≡ total →
      with_front (front ++ a ∷ []) (counted_run test p (n - (i + 1)) (suc k) r) ≡ total
  counted_goes n i r a lt b h so_far =
      goes_on (λ _. true) (λ _. true) (λ n _. suc n) (λ _. test) p front k ls total n i r a lt b h so_far
