-- Reading phrases from left to right, up to the first fault.
use Rattle.std.specs.Prelude.{ℕ, zero, suc, List, [], ◌∷◌, length, Bool, true, false, cond, ◌&&◌, Option, Some, None}

-- why a token is bad
pub data Kind : Type 0 where
  unexpected : Kind
  too_deep : Kind

-- a value and the tokens after it; or the tokens from the bad one on; or a fault and the tokens after the one
-- that settles it
pub data Read (T F A : Type 0) : Type 0 where
  got : A → List T → Read T F A
  bad : Kind → List T → Read T F A
  over : F → List T → Read T F A

abbrev pub Reader : Type 0 → Type 0 → Type 0 → Type 0
Reader T F A = List T → Read T F A

infixl 10 ◌>>=◌
abbrev pub ◌>>=◌ : {T F A B : Type 0} → Read T F A → (A → List T → Read T F B) → Read T F B
(got x ls) >>= f = f x ls
(bad k ls) >>= f = bad k ls
(over e ls) >>= f = over e ls

-- what reading gives where a value has that fault, or none
abbrev pub judge : {T F A : Type 0} → Option F → A → List T → Read T F A
judge None a ls = got a ls
judge (Some f) a ls = over f ls

abbrev pub token_at : {T F A : Type 0} → (T → Option F) → (T → Bool) → (T → A) → Reader T F A
token_at faults is value [] = bad unexpected []
token_at faults is value (x ∷ ls) = cond (is x) (judge (faults x) (value x) ls) (bad unexpected (x ∷ ls))

abbrev pub chain_at : {T F A B : Type 0} → Reader T F A → (A → Reader T F B) → Reader T F (A × B)
chain_at p q ls = p ls >>= λ a r. q a r >>= λ b s. got (a, b) s

abbrev pub then_at : {T F A B : Type 0} → Reader T F A → Reader T F B → Reader T F (A × B)
then_at p q = chain_at p (λ _. q)

abbrev pub making_at : {T F A B : Type 0} → (A → B) → Reader T F A → Reader T F B
making_at f p ls = p ls >>= λ a r. got (f a) r

abbrev pub begins : {T : Type 0} → (T → Bool) → List T → Bool
begins test [] = false
begins test (x ∷ _) = test x

abbrev pub either_at : {T F A : Type 0} → (List T → Bool) → Reader T F A → Reader T F A → Reader T F A
either_at test p q ls = cond (test ls) (p ls) (q ls)

abbrev pub perhaps_at : {T F A : Type 0} → (T → Bool) → A → Reader T F A → Reader T F A
perhaps_at test none p ls = cond (begins test ls) (p ls) (got none ls)

-- no more of them
abbrev pub ended : {T F A : Type 0} → Bool → Reader T F (List A)
ended ends ls = cond ends (got [] ls) (bad unexpected ls)

-- at most so many of them
abbrev pub run_at : {T F A S : Type 0} → (S → Bool) → (S → Bool) → (S → A → S) → (S → T → Bool) →
    (S → Reader T F A) → ℕ → S → Reader T F (List A)
run_at ends goes next test p zero s ls = ended (ends s) ls
run_at ends goes next test p (suc n) s ls =
    cond (goes s && begins (test s) ls)
    (p s ls >>= λ a r. run_at ends goes next test p n (next s a) r >>= λ b t. got (a ∷ b) t) (ended (ends s) ls)

-- as many as there are
abbrev pub all_at : {T F A S : Type 0} → (S → Bool) → (S → Bool) → (S → A → S) → (S → T → Bool) →
    (S → Reader T F A) → S → Reader T F (List A)
all_at ends goes next test p s ls = run_at ends goes next test p (length ls) s ls

abbrev pub many_at : {T F A : Type 0} → (T → Bool) → Reader T F A → Reader T F (List A)
many_at test p = all_at {S = Unit {0}} (λ _. true) (λ _. true) (λ _ _. tt) (λ _. test) (λ _. p) tt

-- each read as the state asks
abbrev pub counted_at : {T F A S : Type 0} → (S → A → S) → (T → Bool) → (S → Reader T F A) → S → Reader T F (List A)
counted_at next test p s = all_at (λ _. true) (λ _. true) next (λ _. test) p s

-- a token that opens a level, where one may
abbrev pub opening_at : {T F A : Type 0} → Bool → (T → Bool) → (T → A) → Reader T F A
opening_at may is value [] = bad unexpected []
opening_at may is value (x ∷ ls) =
    cond (is x) (cond may (got (value x) ls) (bad too_deep (x ∷ ls))) (bad unexpected (x ∷ ls))

-- a phrase, with the place of its first token
abbrev pub placed_at : {T S F A : Type 0} → (T → S) → Reader T F A → Reader T F (S × A)
placed_at place p [] = bad unexpected []
placed_at place p (x ∷ ls) = p (x ∷ ls) >>= λ a r. got (place x, a) r

-- nothing is read: a token with which a phrase would begin has the fault
abbrev pub cap_at : {T F A : Type 0} → (T → Bool) → (T → Kind) → (T → F) → Reader T F A
cap_at is kind fault [] = bad unexpected []
cap_at is kind fault (x ∷ ls) = cond (is x) (over (fault x) ls) (bad (kind x) (x ∷ ls))
