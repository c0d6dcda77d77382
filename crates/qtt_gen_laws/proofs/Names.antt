-- Names of ASCII letters and digits.
use Rattle.std.proofs.Common.{◌≡◌, ℕ, ◌<◌, ◌≤◌, ◌==◌, ◌&&◌, ◌||◌, nat_lt, Bool, true, false, cond, List, [], ◌∷◌, ◌++◌, length, codes, refl, ap, ◌∙◌, arith}
use Rattle.std.proofs.lemmas.Bool.Decides.{nat_tests}
use Rattle.std.proofs.lemmas.Str.{IsUtf8-from_ascii, chars-IsAscii}
use Rattle.std.proofs.lemmas.Str.Ascii.{IsAscii-nil, IsAscii-cons, encodes-IsAscii}
use Rattle.std.specs.Char.{is_ascii_alphabetic, is_ascii_alphanumeric, is_ascii_digit}
use Rattle.std.specs.Fmt.{decimal}
use Rattle.std.specs.List.{list_all, list_any, onto_first}
use Rattle.std.specs.Str.{IsAscii, IsUtf8, chars, encode_utf8_all, all_ascii_digits}
use Rattle.qtt_base.specs.Parts.{parts, has_long_part}
use Rattle.qtt_lexer.specs.Characters.{continues_part, begins, begins_part}
use Rattle.qtt_lexer.specs.Forms.{all_go_on, IsName}
use Rattle.qtt_lexer.proofs.Ascii.{begins_part-ascii, continues_part-ascii}

-- an ASCII letter, and few ASCII letters and digits behind it
pub record Alphanumeric (c : ℕ) (cs : List ℕ) : Type 0 where
  pub letter : is_ascii_alphabetic c ≡ true
  pub rest : list_all is_ascii_alphanumeric cs ≡ true
  pub few : length cs ≤ 254

-- ---- single characters

letter_below : (c : ℕ) → is_ascii_alphabetic c ≡ true → c < 128
letter_below c h = grind (arith, nat_tests)

one_below : (c : ℕ) → is_ascii_alphanumeric c ≡ true → c < 128
one_below c h = grind (arith, nat_tests)

letter_is : (c : ℕ) → is_ascii_alphabetic c ≡ true → is_ascii_alphanumeric c ≡ true
letter_is c h = grind (arith, nat_tests)

digit_is : (c : ℕ) → is_ascii_digit c ≡ true → is_ascii_alphanumeric c ≡ true
digit_is c h = grind (arith, nat_tests)

no_dot : (c : ℕ) → is_ascii_alphanumeric c ≡ true → (c == 46) ≡ false
no_dot c h = grind (arith, nat_tests)

continues : (c : ℕ) → is_ascii_alphanumeric c ≡ true → continues_part c ≡ true
continues c h =
    continues_part-ascii c (one_below c h) ∙ ap (λ (b : Bool). (b || (c == 95)) || (c == 39)) h

-- ---- lists of them

pub both : (a b : Bool) → (a && b) ≡ true → (a ≡ true) × (b ≡ true)
both true true h = (refl, refl)
both true false h = absurd cc
both false b h = absurd cc

pub all_both : (xs ys : List ℕ) → list_all is_ascii_alphanumeric xs ≡ true →
    list_all is_ascii_alphanumeric ys ≡ true → list_all is_ascii_alphanumeric (xs ++ ys) ≡ true
all_both [] ys h k = k
all_both (x ∷ xs) ys h k =
    let g = both (is_ascii_alphanumeric x) (list_all is_ascii_alphanumeric xs) h in
    ap (λ (b : Bool). b && list_all is_ascii_alphanumeric (xs ++ ys)) g.0 ∙ all_both xs ys g.1 k

digits_are : (ds : List ℕ) → all_ascii_digits ds ≡ true → list_all is_ascii_alphanumeric ds ≡ true
digits_are [] h = refl
digits_are (d ∷ ds) h =
    let g = both (is_ascii_digit d) (all_ascii_digits ds) h in
    ap (λ (b : Bool). b && list_all is_ascii_alphanumeric ds) (digit_is d g.0) ∙ digits_are ds g.1

all_ascii : (cs : List ℕ) → list_all is_ascii_alphanumeric cs ≡ true → IsAscii cs
all_ascii [] h = IsAscii-nil
all_ascii (c ∷ cs) h =
    let g = both (is_ascii_alphanumeric c) (list_all is_ascii_alphanumeric cs) h in
    IsAscii-cons c cs (one_below c g.0) (all_ascii cs g.1)

go_on : (cs : List ℕ) → list_all is_ascii_alphanumeric cs ≡ true → all_go_on cs ≡ true
go_on [] h = refl
go_on (c ∷ cs) h =
    let g = both (is_ascii_alphanumeric c) (list_all is_ascii_alphanumeric cs) h in
    ap (λ (b : Bool). cond (b || ((c == 46) && begins begins_part cs)) (all_go_on cs) false) (continues c g.0) ∙
    go_on cs g.1

one_part : (cs : List ℕ) → list_all is_ascii_alphanumeric cs ≡ true → parts cs ≡ cs ∷ []
one_part [] h = refl
one_part (c ∷ cs) h =
    let g = both (is_ascii_alphanumeric c) (list_all is_ascii_alphanumeric cs) h in
    ap (λ (b : Bool). cond b ([] ∷ parts cs) (onto_first c (parts cs))) (no_dot c g.0) ∙
    ap (onto_first c) (one_part cs g.1)

-- ---- names

module _ (c : ℕ) (cs : List ℕ) (a : Alphanumeric c cs) where
  name_all : list_all is_ascii_alphanumeric (c ∷ cs) ≡ true
  name_all = ap (λ (b : Bool). b && list_all is_ascii_alphanumeric cs) (letter_is c a.letter) ∙ a.rest

  name_ascii : IsAscii (c ∷ cs)
  name_ascii = all_ascii (c ∷ cs) name_all

  pub name_utf8 : IsUtf8 (c ∷ cs)
  name_utf8 = IsUtf8-from_ascii (c ∷ cs) name_ascii

  pub name_chars : chars (c ∷ cs) ≡ c ∷ cs
  name_chars = chars-IsAscii (c ∷ cs) name_ascii

  pub name_parts : parts (c ∷ cs) ≡ (c ∷ cs) ∷ []
  name_parts = one_part (c ∷ cs) name_all

  not_long : nat_lt 255 (length (c ∷ cs)) ≡ false
  not_long = let h = a.few in grind (arith, nat_tests)

  name_short : has_long_part (encode_utf8_all (c ∷ cs)) ≡ false
  name_short =
      ap has_long_part (encodes-IsAscii (c ∷ cs) name_ascii)
      ∙ ap (list_any (λ (part : List ℕ). nat_lt 255 (length part))) name_parts
      ∙ ap (λ (b : Bool). b || false) not_long

  pub name_form : IsName c cs
  name_form = record {
    begins =
        begins_part-ascii c (letter_below c a.letter) ∙ ap (λ (b : Bool). b || (c == 95)) a.letter;
    goes_on = go_on cs a.rest;
    short = name_short;
  }

-- ---- numbered names

-- what stands behind the letter
abbrev pub numbers : ℕ → ℕ → List ℕ
numbers i j = decimal i ++ codes "x" ++ decimal j

pub numbers_all : (i j : ℕ) → all_ascii_digits (decimal i) ≡ true → all_ascii_digits (decimal j) ≡ true →
    list_all is_ascii_alphanumeric (numbers i j) ≡ true
numbers_all i j h k =
    all_both (decimal i ++ codes "x") (decimal j)
    (all_both (decimal i) (codes "x") (digits_are (decimal i) h) refl) (digits_are (decimal j) k)
