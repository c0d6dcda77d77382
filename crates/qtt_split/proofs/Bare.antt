-- The last part of a name.
use Rattle.std.proofs.Common.{◌≡◌, ◌∙◌, ◌≢◌, ℕ, suc, ◌+◌, ◌-◌, ◌<◌, ◌≤◌, Bool, true, false, cond, not, ◌||◌, ◌==◌, eqb, nat_lt, List, [], ◌∷◌, ◌++◌, take, drop, length, reverse, get_or, Option, Some, None, Bor, MatchOption, refl, sym, ap, arith, append_assoc}
use Rattle.std.specs.List.{list_any, prefix_len, suffix_len, after_last, slice_split, onto_first}
use Rattle.std.specs.Str.Pattern.{RFindsChar}
use Rattle.std.proofs.lemmas.Bool.Decides.{nat_tests}
use Rattle.std.proofs.lemmas.List.{reverse-append, length-append, length-reverse, take-append-drop}
use Rattle.std.proofs.lemmas.List.Folds.{list_any-append}
use Rattle.std.proofs.lemmas.Str.Pattern.{NoCharPasses-char, drop_at_char}
use Rattle.qtt_base.specs.Parts.{has_long_part}
use Rattle.qtt_split.specs.Constructors.{bare}

abbrev dot : ℕ → Bool
dot b = eqb b 46

abbrev no_dot : ℕ → Bool
no_dot b = not (dot b)

Dotless : List ℕ → Type 0
Dotless s = (i : ℕ) → i < length s → get_or s i 0 ≢ 46

not-dot : (b : ℕ) → b ≢ 46 → dot b ≡ false
not-dot b h = grind (arith, nat_tests)

none-is-dot : (s : List ℕ) → Dotless s → list_any dot s ≡ false
unfolding Dotless
none-is-dot [] h = refl
none-is-dot (b ∷ s) h =
    ap (λ c. c || list_any dot s) (not-dot b (h 0 (omega arith))) ∙ none-is-dot s (λ i l. h (suc i) (omega arith))

any-reverse : (s : List ℕ) → list_any dot s ≡ false → list_any dot (reverse s) ≡ false
any-reverse [] h = refl
any-reverse (b ∷ s) h = by (dot b) refl h (any-reverse s)
  where
    by : (c : Bool) → dot b ≡ c → (c || list_any dot s) ≡ false →
        (list_any dot s ≡ false → list_any dot (reverse s) ≡ false) → list_any dot (reverse (b ∷ s)) ≡ false
    by true e h more = cc
    by false e h more =
        ap (list_any dot) (reverse-append (b ∷ []) s) ∙ list_any-append dot (reverse s) (b ∷ []) ∙
        ap (λ c. c || (dot b || false)) (more h) ∙ ap (λ c. c || false) e

prefix-stops : (front back : List ℕ) → list_any dot front ≡ false →
    prefix_len no_dot (front ++ 46 ∷ back) ≡ length front
prefix-stops [] back h = refl
prefix-stops (b ∷ front) back h = by (dot b) refl h (prefix-stops front back)
  where
    by : (c : Bool) → dot b ≡ c → (c || list_any dot front) ≡ false →
        (list_any dot front ≡ false → prefix_len no_dot (front ++ 46 ∷ back) ≡ length front) →
        cond (not (dot b)) (1 + prefix_len no_dot (front ++ 46 ∷ back)) 0 ≡ suc (length front)
    by true e h more = cc
    by false e h more =
        let s : 1 + length front ≡ suc (length front) = omega arith in
        ap (λ c. cond (not c) (1 + prefix_len no_dot (front ++ 46 ∷ back)) 0) e ∙
        ap (λ n. 1 + n) (more h) ∙ s

drop-front : (front back : List ℕ) → drop (suc (length front)) (front ++ 46 ∷ back) ≡ back
drop-front [] back = refl
drop-front (b ∷ front) back = drop-front front back

last-found : (front back : List ℕ) → list_any dot back ≡ false → after_last dot (front ++ 46 ∷ back) ≡ back
last-found front back h =
    let turned : reverse (front ++ 46 ∷ back) ≡ reverse back ++ 46 ∷ reverse front =
    reverse-append front (46 ∷ back) ∙
    ap (λ xs. xs ++ reverse front) (reverse-append (46 ∷ []) back) ∙
    append_assoc (reverse back) (46 ∷ []) (reverse front) in
    let count : suffix_len no_dot (front ++ 46 ∷ back) ≡ length back =
    ap (prefix_len no_dot) turned ∙ prefix-stops (reverse back) (reverse front) (any-reverse back h) ∙
    length-reverse back in
    let all : length (front ++ 46 ∷ back) ≡ length front + suc (length back) = length-append front (46 ∷ back) in
    let from : length (front ++ 46 ∷ back) - suffix_len no_dot (front ++ 46 ∷ back) ≡ suc (length front) =
    omega (arith, count, all) in
    ap (λ n. drop n (front ++ 46 ∷ back)) from ∙ drop-front front back

some-dot : (front back : List ℕ) → list_any dot (front ++ 46 ∷ back) ≡ true
some-dot [] back = refl
some-dot (b ∷ front) back = by (dot b) (some-dot front back)
  where
    by : (c : Bool) → list_any dot (front ++ 46 ∷ back) ≡ true → (c || list_any dot (front ++ 46 ∷ back)) ≡ true
    by true more = refl
    by false more = more

bare-behind : (front back : List ℕ) → list_any dot back ≡ false → bare (front ++ 46 ∷ back) ≡ back
bare-behind front back h =
    let n = front ++ 46 ∷ back in
    ap (λ c. cond c (after_last dot n) n) (some-dot front back) ∙ last-found front back h

bare-same : (n : List ℕ) → list_any dot n ≡ false → bare n ≡ n
bare-same n h = ap (λ c. cond c (after_last dot n) n) h

-- what `rsplit_once` answers
pub bare-is : (text : List ℕ) (r : Option (Bor (List ℕ) × Bor (List ℕ)))
    → MatchOption r (RFindsChar 46 text None)
    (λ x. (i : ℕ) × (j : ℕ) × RFindsChar 46 text (Some (i, j)) × (x.0.now ≡ take i text) ×
    (x.1.now ≡ drop j text) × (i ≤ j) × (length x.0.now ≡ i) × (length x.1.now + j ≡ length text))
    → MatchOption r (text ≡ bare text) (λ x. x.1.now ≡ bare text)
unfolding Dotless
bare-is text None h =
    sym (bare-same text (none-is-dot text (λ i l. NoCharPasses-char 46 text i h (omega arith) l)))
bare-is text (Some x) h =
    let i = h.0 in
    let j = h.1 in
    let low : 46 < 128 = omega arith in
    let whole : text ≡ take i text ++ 46 ∷ drop j text =
    sym (take-append-drop i text) ∙ ap (λ (l : List ℕ). take i text ++ l) (drop_at_char 46 text i j h.2.1 low) in
    let none : list_any dot (drop j text) ≡ false =
    none-is-dot (drop j text) (λ k l. NoCharPasses-char 46 (drop j text) k h.2.0 low l) in
    h.4 ∙ sym (ap bare whole ∙ bare-behind (take i text) (drop j text) none)

-- ---- parts that are short
abbrev long : List ℕ → Bool
long part = nat_lt 255 (length part)

abbrev parts : List ℕ → List (List ℕ)
parts n = slice_split (λ b. b == 46) n

short-first : (b : ℕ) (part : List ℕ) → long (b ∷ part) ≡ false → long part ≡ false
short-first b part h = grind (arith, nat_tests)

short-onto : (b : ℕ) (ps : List (List ℕ)) → list_any long (onto_first b ps) ≡ false → list_any long ps ≡ false
short-onto b [] h = refl
short-onto b (part ∷ ps) h = by (long (b ∷ part)) refl h
  where
    by : (c : Bool) → long (b ∷ part) ≡ c → (c || list_any long ps) ≡ false → list_any long (part ∷ ps) ≡ false
    by true e h = cc
    by false e h = ap (λ c. c || list_any long ps) (short-first b part e) ∙ h

short-behind : (front back : List ℕ) → list_any long (parts (front ++ 46 ∷ back)) ≡ false →
    list_any long (parts back) ≡ false
short-behind [] back h = h
short-behind (b ∷ front) back h = short-behind front back (by (b == 46) h)
  where
    by : (c : Bool) →
        list_any long (cond c ([] ∷ parts (front ++ 46 ∷ back)) (onto_first b (parts (front ++ 46 ∷ back)))) ≡ false →
        list_any long (parts (front ++ 46 ∷ back)) ≡ false
    by true h = h
    by false h = short-onto b (parts (front ++ 46 ∷ back)) h

pub short-is : (text : List ℕ) (r : Option (Bor (List ℕ) × Bor (List ℕ)))
    → MatchOption r (RFindsChar 46 text None)
    (λ x. (i : ℕ) × (j : ℕ) × RFindsChar 46 text (Some (i, j)) × (x.0.now ≡ take i text) ×
    (x.1.now ≡ drop j text) × (i ≤ j) × (length x.0.now ≡ i) × (length x.1.now + j ≡ length text))
    → has_long_part text ≡ false → MatchOption r (Unit {0}) (λ x. has_long_part x.1.now ≡ false)
short-is text None h short = tt
short-is text (Some x) h short =
    let i = h.0 in
    let j = h.1 in
    let low : 46 < 128 = omega arith in
    let whole : text ≡ take i text ++ 46 ∷ drop j text =
    sym (take-append-drop i text) ∙ ap (λ (l : List ℕ). take i text ++ l) (drop_at_char 46 text i j h.2.1 low) in
    ap has_long_part h.4 ∙ short-behind (take i text) (drop j text) (sym (ap has_long_part whole) ∙ short)
