-- Loops that read one after another and keep nothing of what they read.
use Rattle.std.proofs.Common.{◌≡◌, ◌∙◌, ℕ, zero, suc, ◌+◌, ◌-◌, ◌<◌, Bool, true, false, not, ◌&&◌, List, ◌∷◌, refl, sym, arith}
use Rattle.qtt_phrase.specs.Reading.{Kind, Read, ◌>>=◌, begins, run_at, ended, making_at}
use Rattle.qtt_phrase.specs.Reading.Read.{got, bad, over}
use Rattle.qtt_grammar.specs.declared.stop.Excess.{Excess}
use Rattle.qtt_grammar.specs.declared.stop.Stop.{Stop}
use Rattle.qtt_grammar.specs.declared.stop.Stop.TheVariants as stop
use Rattle.qtt_grammar.specs.declared.lexeme.Lexeme.{Lexeme}
use Rattle.qtt_grammar.specs.Readers.{Reads}
use Rattle.qtt_grammar.specs.View.{Fails, kind_of}
use Rattle.qtt_grammar.specs.ChainReaders.{ignored}

abbrev forgotten : {A : Type 0} → Read Lexeme Excess A → Read Lexeme Excess (Unit {0})
forgotten r = r >>= λ a rest. got (ignored a) rest

forgets_more : {A : Type 0} (a : A) (r : Read Lexeme Excess (List A)) →
    forgotten (r >>= λ b s. got (a ∷ b) s) ≡ forgotten r
forgets_more a (got x ls) = refl
forgets_more a (bad k ls) = refl
forgets_more a (over e ls) = refl

module _ {A S : Type 0} (ends goes : S → Bool) (next : S → A → S) (test : S → Lexeme → Bool) (p : S → Reads A)
    (s : S) (ls : List Lexeme) (total : Read Lexeme Excess (Unit {0})) where
  step : (m n : ℕ) (r : List Lexeme) (a : A) → m ≡ suc n → (goes s && begins (test s) ls) ≡ true →
      p s ls ≡ got a r → forgotten (run_at ends goes next test p m s ls) ≡ forgotten
      (run_at ends goes next test p n (next s a) r)
  step m n r a e b h = rw (e, b, h) (forgets_more a (run_at ends goes next test p n (next s a) r))

  -- one more was read
  pub forgets_goes : (n i : ℕ) (r : List Lexeme) (a : A) → i < n → (goes s && begins (test s) ls) ≡ true →
      p s ls ≡ got a r → making_at ignored (run_at ends goes next test p (n - i) s) ls ≡ total →
      making_at ignored (run_at ends goes next test p (n - (i + 1)) (next s a)) r ≡ total
  forgets_goes n i r a lt b h so_far = sym (step (n - i) (n - (i + 1)) r a (omega arith) b h) ∙ so_far

  stops_bad : (m n : ℕ) (k : Kind) (r : List Lexeme) → m ≡ suc n → (goes s && begins (test s) ls) ≡ true →
      p s ls ≡ bad k r → forgotten (run_at ends goes next test p m s ls) ≡ bad k r
  stops_bad m n k r e b h = rw (e, b, h) refl

  stops_over : (m n : ℕ) (f : Excess) (r : List Lexeme) → m ≡ suc n → (goes s && begins (test s) ls) ≡ true →
      p s ls ≡ over f r → forgotten (run_at ends goes next test p m s ls) ≡ over f r
  stops_over m n f r e b h = rw (e, b, h) refl

  -- reading one more stopped
  pub forgets_stops : (e : Stop) (n i : ℕ) → i < n → (goes s && begins (test s) ls) ≡ true → Fails e (p s ls) →
      making_at ignored (run_at ends goes next test p (n - i) s) ls ≡ total → Fails e total
  forgets_stops stop.Memory n i lt b h so_far = tt
  forgets_stops (stop.Bad r rest) n i lt b h so_far =
      sym so_far ∙ stops_bad (n - i) (n - (i + 1)) (kind_of r) rest.now (omega arith) b h
  forgets_stops (stop.Over f rest) n i lt b h so_far =
      sym so_far ∙ stops_over (n - i) (n - (i + 1)) f rest.now (omega arith) b h

  ends_at : (m : ℕ) → (goes s && begins (test s) ls) ≡ false →
      forgotten (run_at ends goes next test p m s ls) ≡ forgotten (ended {A = A} (ends s) ls)
  ends_at zero b = refl
  ends_at (suc m) b = rw b refl

  -- no other one comes
  pub forgets_ends : (m : ℕ) → (goes s && begins (test s) ls) ≡ false →
      making_at ignored (run_at ends goes next test p m s) ls ≡ total →
      total ≡ forgotten (ended {A = A} (ends s) ls)
  forgets_ends m b so_far = sym so_far ∙ ends_at m b

  -- all lexemes were looked at
  pub forgets_out : (m : ℕ) → m ≡ 0 → making_at ignored (run_at ends goes next test p m s) ls ≡ total →
      total ≡ forgotten (ended {A = A} (ends s) ls)
  forgets_out m e so_far = sym so_far ∙ rw e refl

-- the last one of those that end by themselves
pub forgets_last : {A : Type 0} (next : Bool → A → Bool) (test : Lexeme → Bool) (p : Reads A) (m : ℕ)
    (ls : List Lexeme) → making_at ignored (run_at (λ b. b) not next (λ _. test) (λ _. p) m true) ls ≡ got tt ls
forgets_last next test p zero ls = refl
forgets_last next test p (suc m) ls = refl

-- phrases that tell whether they are the last one
module _ (test : Lexeme → Bool) (p : Reads Bool) (ls : List Lexeme) (total : Read Lexeme Excess (Unit {0})) where
  abbrev from : ℕ → Reads (Unit {0})
  from n = making_at ignored (run_at (λ b. b) not (λ _ b. b) (λ _. test) (λ _. p) n false)

  pub goes_open : (n i : ℕ) (r : List Lexeme) (a : Bool) → a ≡ false → i < n → begins test ls ≡ true →
      p ls ≡ got a r → from (n - i) ls ≡ total → from (n - (i + 1)) r ≡ total
  goes_open n i r true e lt b h so_far = absurd cc
  goes_open n i r false e lt b h so_far =
      forgets_goes (λ b. b) not (λ _ b. b) (λ _. test) (λ _. p) false ls total n i r false lt b h so_far

  pub goes_closed : (n i : ℕ) (r : List Lexeme) (a : Bool) → a ≡ true → i < n → begins test ls ≡ true →
      p ls ≡ got a r → from (n - i) ls ≡ total → total ≡ got tt r
  goes_closed n i r false e lt b h so_far = absurd cc
  goes_closed n i r true e lt b h so_far =
      sym (forgets_goes (λ b. b) not (λ _ b. b) (λ _. test) (λ _. p) false ls total n i r true lt b h so_far) ∙
      forgets_last (λ _ b. b) test p (n - (i + 1)) r
