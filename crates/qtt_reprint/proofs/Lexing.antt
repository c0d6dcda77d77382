-- Single printed words, lexed.
use Rattle.std.proofs.Common.{◌≡◌, ℕ, suc, ◌+◌, ◌*◌, ◌-◌, ◌^◌, ◌<◌, ◌≤◌, ◌==◌, ◌||◌, ◌&&◌, not, nat_lt, nat_le, pos, negsuc, Bool, true, false, cond, List, [], ◌∷◌, ◌++◌, length, get_or, take, fold, Some, None, unwrap_or, encode_utf8, refl, sym, ap, subst, ◌∙◌, append_assoc, arith, codes, inl, inr, ◌⊎◌}
use Rattle.std.proofs.lemmas.Bool.Decides.{nat_tests, eqb_tells}
use Rattle.std.proofs.lemmas.List.{append-nil, length-append}
use Rattle.std.proofs.Math.Seq.{take-append_seam}
use Rattle.std.specs.List.{list_all, prefix_len, flat_map}
use Rattle.std.specs.Char.{is_ascii_digit, is_ascii_alphabetic}
use Rattle.std.specs.Str.{encode_utf8_all}
use Rattle.qtt_base.specs.Parts.{has_long_part}
use Rattle.qtt_lexer.specs.Characters.{begins, begins_part, continues_part, goes_on}
use Rattle.qtt_lexer.specs.Forms.{all_go_on, IsName}
use Rattle.qtt_lexer.specs.Piece.{is_dash, front_of, by_front, piece_at, name_tail, name_at, word_of, reserved, names_hole, bad, hole_of, hole_at, number_at, number_of, decimal, symbol_at, symbol_of}
use Rattle.qtt_lexer.specs.declared.front.Front.TheVariants as front
use Rattle.qtt_lexer.specs.declared.token.TokenKind.{TokenKind}
use Rattle.qtt_lexer.specs.declared.token.TokenKind.TheVariants as kind
use Rattle.qtt_lexer.specs.declared.piece.Piece.TheVariants.{Token, Wrong}
use Rattle.qtt_lexer.specs.declared.piece.Cause.TheVariants.{NameTooLong, NumberTooWide}
use Rattle.qtt_lexer.proofs.Ascii.{begins_part-ascii, continues_part-ascii, continues_part-begins, front_of-name, front_of-number}
use Rattle.qtt_lexer.proofs.Longest.{all_go_on-name_tail, spelled-quoted}
use Rattle.std.proofs.lemmas.Str.{encodes-append, inside_one}
use Rattle.std.proofs.lemmas.Str.Parse.{FoldsDigits, IsNumeralModel, numerals_by_fold, tells_all_ascii_digits}
use Rattle.std.proofs.lemmas.Fmt.{digits_decimal, digits_value-decimal, decimal_nonempty}
use lib.Utf8.{encode}
use Rattle.std.proofs.lemmas.Grind.{flat_map-append}
use Rattle.std.proofs.Math.Utf8.{scalar, scalars}
use Rattle.std.specs.Str.{all_ascii_digits}
use Rattle.std.specs.Fmt as fmt
use Rattle.qtt_lexer.specs.Forms.{Spells}
use Rattle.qtt_lexer.specs.Forms.Spells.{nothing, plain, escaped as escaped_one}
use Rattle.qtt_lexer.specs.Piece.{quoted, text_of, pairs, singles, listed}
use Rattle.qtt_syntax.specs.Words.{escaped}

-- ---- what ends a word

pub data Separated : List ℕ → Type 0 where
  before_blank : (cs : List ℕ) → Separated (32 ∷ cs)
  before_line : (cs : List ℕ) → Separated (10 ∷ cs)
  before_bracket : (cs : List ℕ) → Separated (41 ∷ cs)
  before_brace : (cs : List ℕ) → Separated (125 ∷ cs)

no_part : (c : ℕ) (cs : List ℕ) → continues_part c ≡ false → (c == 46) ≡ false → name_tail (c ∷ cs) ≡ 0
unfolding name_tail
no_part c cs e f =
    ap (λ (b : Bool). cond (b || ((c == 46) && begins begins_part cs)) (name_tail cs + 1) 0) e
    ∙ ap (λ (b : Bool). cond (b && begins begins_part cs) (name_tail cs + 1) 0) f

no_tail : (rest : List ℕ) → Separated rest → name_tail rest ≡ 0
no_tail rest (before_blank cs) = no_part 32 cs (continues_part-ascii 32 (omega arith)) refl
no_tail rest (before_line cs) = no_part 10 cs (continues_part-ascii 10 (omega arith)) refl
no_tail rest (before_bracket cs) = no_part 41 cs (continues_part-ascii 41 (omega arith)) refl
no_tail rest (before_brace cs) = no_part 125 cs (continues_part-ascii 125 (omega arith)) refl

no_digit : (rest : List ℕ) → Separated rest → begins is_ascii_digit rest ≡ false
no_digit rest (before_blank cs) = refl
no_digit rest (before_line cs) = refl
no_digit rest (before_bracket cs) = refl
no_digit rest (before_brace cs) = refl

-- ---- names

most_by : (b : Bool) (n m : ℕ) → n ≤ m → cond b (n + 1) 0 ≤ suc m
most_by true n m h = omega (arith, h)
most_by false n m h = omega arith

name_tail-most : (cs rest : List ℕ) → name_tail rest ≡ 0 → name_tail (cs ++ rest) ≤ length cs
unfolding name_tail
name_tail-most [] rest e = omega (arith, e)
name_tail-most (c ∷ cs) rest e =
    most_by (goes_on c (cs ++ rest)) (name_tail (cs ++ rest)) (length cs) (name_tail-most cs rest e)

name_tail-exact : (cs rest : List ℕ) → all_go_on cs ≡ true → Separated rest →
    name_tail (cs ++ rest) + 1 ≡ suc (length cs)
name_tail-exact cs rest h s = omega (arith, all_go_on-name_tail cs rest h, name_tail-most cs rest (no_tail rest s))

abbrev pub name_kind : List ℕ → TokenKind
name_kind w = unwrap_or (reserved w) (kind.Name w)

module _ (c : ℕ) (cs rest : List ℕ) (h : IsName c cs) (s : Separated rest) where
  spelled_front : encode_utf8_all (take (suc (length cs)) (c ∷ (cs ++ rest))) ≡ encode_utf8_all (c ∷ cs)
  spelled_front = ap (λ (ds : List ℕ). encode_utf8_all (c ∷ ds)) (take-append_seam cs rest)

  pub name_piece : piece_at false (c ∷ (cs ++ rest)) ≡ Token (name_kind (encode_utf8_all (c ∷ cs))) (suc (length cs))
  unfolding piece_at name_at
  name_piece =
      ap (by_front false c (cs ++ rest)) (front_of-name c (cs ++ rest) h.begins)
      ∙ ap (λ (n : ℕ). word_of n (encode_utf8_all (take n (c ∷ (cs ++ rest))))) (name_tail-exact cs rest h.goes_on s)
      ∙ ap (word_of (suc (length cs))) spelled_front
      ∙ ap (λ (b : Bool). cond b (Wrong NameTooLong 0 (suc (length cs)))
      (Token (name_kind (encode_utf8_all (c ∷ cs))) (suc (length cs))))
      h.short

  pub hole_piece : names_hole (encode_utf8_all (c ∷ cs)) ≡ true
      → piece_at false (63 ∷ c ∷ (cs ++ rest)) ≡ Token (kind.Hole (encode_utf8_all (c ∷ cs))) (suc (suc (length cs)))
  unfolding piece_at hole_at
  hole_piece e =
      let w = encode_utf8_all (c ∷ cs) in
      ap
      (λ (b : Bool). cond b (hole_of (name_tail (cs ++ rest) + 1)
      (encode_utf8_all (take (name_tail (cs ++ rest) + 1) (c ∷ (cs ++ rest)))))
      (bad 63))
      h.begins
      ∙ ap (λ (n : ℕ). hole_of n (encode_utf8_all (take n (c ∷ (cs ++ rest))))) (name_tail-exact cs rest h.goes_on s)
      ∙ ap (hole_of (suc (length cs))) spelled_front
      ∙ ap
      (λ (b : Bool). cond b (cond (has_long_part w) (Wrong NameTooLong 1 (suc (length cs)))
      (Token (kind.Hole w) (suc (length cs) + 1)))
      (bad 63))
      e
      ∙ ap (λ (b : Bool). cond b (Wrong NameTooLong 1 (suc (length cs)))
      (Token (kind.Hole w) (suc (length cs) + 1))) h.short
      ∙ ap (Token (kind.Hole w)) (omega arith)

-- ---- numbers

digits_folded : FoldsDigits (λ n ds. fold (λ m c. m * 10 + (c - 48)) n ds)
digits_folded = record { empty = λ n. refl; more = λ n c cs h. refl }

digits_model : IsNumeralModel (λ ds. all_ascii_digits ds ≡ true) (λ ds. fold (λ m c. m * 10 + (c - 48)) 0 ds)
digits_model =
    numerals_by_fold (λ ds. all_ascii_digits ds ≡ true) tells_all_ascii_digits
    (λ n ds. fold (λ m c. m * 10 + (c - 48)) n ds) digits_folded

-- digits that spell the number
pub record Digits (ds : List ℕ) (n : ℕ) : Type 0 where
  pub head : ℕ
  pub tail : List ℕ
  pub are : ds ≡ head ∷ tail
  pub all : all_ascii_digits ds ≡ true
  pub value : decimal ds ≡ n

some_digits : (ds : List ℕ) (n : ℕ) → 0 < length ds → all_ascii_digits ds ≡ true → decimal ds ≡ n → Digits ds n
some_digits [] n h e f = absurd (omega (arith, h))
some_digits (d ∷ ds) n h e f = record { head = d; tail = ds; are = refl; all = e; value = f }

pub decimal_digits : (n : ℕ) → n < 2 ^ 64 → Digits (fmt.decimal n) n
decimal_digits n h =
    some_digits (fmt.decimal n) n (decimal_nonempty n h) (digits_decimal digits_model n h)
    (digits_value-decimal digits_model n h)

pub both : (a b : Bool) → (a && b) ≡ true → (a ≡ true) × (b ≡ true)
both true true h = (refl, refl)
both true false h = absurd cc
both false b h = absurd cc

no_prefix : (rest : List ℕ) → begins is_ascii_digit rest ≡ false → prefix_len is_ascii_digit rest ≡ 0
no_prefix [] e = refl
no_prefix (c ∷ cs) e = ap (λ (b : Bool). cond b (1 + prefix_len is_ascii_digit cs) 0) e

prefix_exact : (ds rest : List ℕ) → all_ascii_digits ds ≡ true → begins is_ascii_digit rest ≡ false
    → prefix_len is_ascii_digit (ds ++ rest) ≡ length ds
prefix_exact [] rest e f = no_prefix rest f
prefix_exact (d ∷ ds) rest e f =
    let g = both (is_ascii_digit d) (all_ascii_digits ds) e in
    ap (λ (b : Bool). cond b (1 + prefix_len is_ascii_digit (ds ++ rest)) 0) g.0
    ∙ ap (λ (n : ℕ). 1 + n) (prefix_exact ds rest g.1 f)
    ∙ omega arith

pub lt_true : (n m : ℕ) → n < m → nat_lt n m ≡ true
lt_true n m h = grind (arith, nat_tests)

pub le_true : (n m : ℕ) → n ≤ m → nat_le n m ≡ true
le_true n m h = grind (arith, nat_tests)

number_taken : (b : Bool) (d : ℕ) (ds rest : List ℕ) (n : ℕ) → all_ascii_digits (d ∷ ds) ≡ true →
    decimal (d ∷ ds) ≡ n → Separated rest
    → number_at b (d ∷ (ds ++ rest)) ≡ number_of b (suc (length ds)) n
unfolding number_at
number_taken b d ds rest n a v s =
    ap (λ (m : ℕ). number_of b m (decimal (take m (d ∷ (ds ++ rest))))) (prefix_exact (d ∷ ds) rest a (no_digit rest s))
    ∙ ap (λ (es : List ℕ). number_of b (suc (length ds)) (decimal (d ∷ es))) (take-append_seam ds rest)
    ∙ ap (number_of b (suc (length ds))) v

pub digit_first : (d : ℕ) (ds : List ℕ) → all_ascii_digits (d ∷ ds) ≡ true → is_ascii_digit d ≡ true
digit_first d ds a = (both (is_ascii_digit d) (all_ascii_digits ds) a).0

pub digit_no_dash : (d : ℕ) → is_ascii_digit d ≡ true → (d == 45) ≡ false
digit_no_dash d h = grind (arith, nat_tests)

pub number_piece : (d : ℕ) (ds rest : List ℕ) (n : ℕ) → all_ascii_digits (d ∷ ds) ≡ true → decimal (d ∷ ds) ≡ n →
    n < 2 ^ 63
    → Separated rest → piece_at false (d ∷ (ds ++ rest)) ≡ Token (kind.Number (pos n)) (suc (length ds))
unfolding piece_at
number_piece d ds rest n a v h s =
    ap (by_front false d (ds ++ rest)) (front_of-number d (ds ++ rest) (digit_first d ds a))
    ∙ number_taken false d ds rest n a v s
    ∙ ap (λ (b : Bool). cond b (Token (kind.Number (pos n)) (suc (length ds)))
    (Wrong NumberTooWide 0 (suc (length ds))))
    (lt_true n (2 ^ 63) h)

front_negative : (d : ℕ) (cs : List ℕ) → is_ascii_digit d ≡ true → front_of 45 (d ∷ cs) ≡ front.Negative
front_negative d cs h = rw (digit_no_dash d h, begins_part-ascii 45 (omega arith), h) refl

pub negative_piece : (d : ℕ) (ds rest : List ℕ) (n : ℕ) → all_ascii_digits (d ∷ ds) ≡ true →
    decimal (d ∷ ds) ≡ suc n → suc n ≤ 2 ^ 63
    → Separated rest → piece_at false (45 ∷ d ∷ (ds ++ rest)) ≡ Token (kind.Number (negsuc n)) (suc (suc (length ds)))
unfolding piece_at
negative_piece d ds rest n a v h s =
    ap (by_front false 45 (d ∷ (ds ++ rest))) (front_negative d (ds ++ rest) (digit_first d ds a))
    ∙ number_taken true d ds rest (suc n) a v s
    ∙ ap (λ (b : Bool). cond b (Token (kind.Number (negsuc n)) (suc (length ds) + 1))
    (Wrong NumberTooWide 0 (suc (length ds) + 1)))
    (le_true (suc n) (2 ^ 63) h)
    ∙ ap (Token (kind.Number (negsuc n))) (omega arith)

-- ---- texts

pub text_piece : (body v rest : List ℕ) → Spells body v
    → piece_at false (34 ∷ ((body ++ 34 ∷ []) ++ rest)) ≡ Token (kind.Text v) (suc (length (body ++ 34 ∷ [])))
unfolding piece_at
text_piece body v rest m =
    ap (text_of false) (ap quoted (append_assoc body (34 ∷ []) rest) ∙ spelled-quoted body v rest m)
    ∙ ap (Token (kind.Text v)) (omega (arith, length-append body (34 ∷ [])))

-- neither of the characters that are escaped
abbrev Bare : ℕ → Type 0
Bare c = (c ≡ 10 → ⊥) × ((c ≡ 9 → ⊥) × ((c ≡ 92 → ⊥) × (c ≡ 34 → ⊥)))

abbrev Told : ℕ → ℕ → Type 0
Told c k = (((c == k) ≡ true) × (c ≡ k)) ⊎ (((c == k) ≡ false) × (c ≡ k → ⊥))

escaped_by : (P : ℕ → List ℕ → Type 0) (c : ℕ) → Told c 10 → Told c 9 → Told c 92 → Told c 34 →
    P 10 (codes "\\n") → P 9 (codes "\\t")
    → P 92 (codes "\\\\") → P 34 (codes "\\\"") → (Bare c → P c (c ∷ [])) → P c (escaped c)
escaped_by P c (inl x) y z w a b d e f = subst (λ (n : ℕ). P n (escaped n)) (sym x.1) a
escaped_by P c (inr x) (inl y) z w a b d e f = subst (λ (n : ℕ). P n (escaped n)) (sym y.1) b
escaped_by P c (inr x) (inr y) (inl z) w a b d e f = subst (λ (n : ℕ). P n (escaped n)) (sym z.1) d
escaped_by P c (inr x) (inr y) (inr z) (inl w) a b d e f = subst (λ (n : ℕ). P n (escaped n)) (sym w.1) e
escaped_by P c (inr x) (inr y) (inr z) (inr w) a b d e f = rw (x.0, y.0, z.0, w.0) (f (x.1, (y.1, (z.1, w.1))))

-- what holds of each escape, and of what needs none
escapes : (P : ℕ → List ℕ → Type 0) (c : ℕ) → P 10 (codes "\\n") → P 9 (codes "\\t") → P 92 (codes "\\\\") →
    P 34 (codes "\\\"")
    → (Bare c → P c (c ∷ [])) → P c (escaped c)
escapes P c = escaped_by P c (eqb_tells c 10) (eqb_tells c 9) (eqb_tells c 92) (eqb_tells c 34)

spells_one : (c : ℕ) (body rest : List ℕ) → Spells body rest → Spells (escaped c ++ body) (encode_utf8 c ++ rest)
unfolding encode
spells_one c body rest m =
    escapes (λ x es. Spells (es ++ body) (encode_utf8 x ++ rest)) c
    (escaped_one 110 10 body rest (10 ∷ rest) (λ h. omega (arith, h)) refl m refl)
    (escaped_one 116 9 body rest (9 ∷ rest) (λ h. omega (arith, h)) refl m refl)
    (escaped_one 92 92 body rest (92 ∷ rest) (λ h. omega (arith, h)) refl m refl)
    (escaped_one 34 34 body rest (34 ∷ rest) (λ h. omega (arith, h)) refl m refl)
    (λ b. plain c body rest (encode_utf8 c ++ rest) b.1.1.1 b.0 b.1.1.0 m refl)

pub escaped_spells : (cs : List ℕ) → Spells (flat_map escaped cs) (encode_utf8_all cs)
escaped_spells [] = nothing
escaped_spells (c ∷ cs) = spells_one c (flat_map escaped cs) (encode_utf8_all cs) (escaped_spells cs)

scalars_one : (c : ℕ) (rest : List ℕ) → scalar c ≡ true → scalars rest ≡ true → scalars (escaped c ++ rest) ≡ true
scalars_one c rest h e = escapes (λ x es. scalars (es ++ rest) ≡ true) c e e e e (λ b. rw (h, e) refl)

pub escaped_scalars : (cs : List ℕ) → scalars cs ≡ true → scalars (flat_map escaped cs) ≡ true
escaped_scalars [] e = refl
escaped_scalars (c ∷ cs) e = let h =
    both (scalar c) (scalars cs) e in scalars_one c (flat_map escaped cs) h.0 (escaped_scalars cs h.1)

bare_escape : (b : ℕ) → Bare b → escaped b ≡ b ∷ []
bare_escape b f = rw (
  eqb-false-of b 10 f.0,
  eqb-false-of b 9 f.1.0,
  eqb-false-of b 92 f.1.1.0,
  eqb-false-of b 34 f.1.1.1,
) refl
  where
    eqb-false-of : (x y : ℕ) → (x ≡ y → ⊥) → (x == y) ≡ false
    eqb-false-of x y h = grind (arith, nat_tests)

bare_bytes : (bs : List ℕ) → ((k : ℕ) → k < length bs → Bare (get_or bs k 0)) → flat_map escaped bs ≡ bs
bare_bytes [] f = refl
bare_bytes (b ∷ bs) f =
    ap (λ (v : List ℕ). v ++ flat_map escaped bs) (bare_escape b (f 0 (omega arith)))
    ∙ ap (λ (v : List ℕ). b ∷ v) (bare_bytes bs (λ k h. f (suc k) (omega (arith, h))))

-- no byte of a character that is not escaped is
bare_encode : (c : ℕ) → Bare c → (k : ℕ) → k < length (encode_utf8 c) → Bare (get_or (encode_utf8 c) k 0)
bare_encode c b k h =
    let same : get_or (encode_utf8 c) k 0 < 128 → c ≡ get_or (encode_utf8 c) k 0 =
    inside_one c [] (encode_utf8 c) k (sym (append-nil (encode_utf8 c))) h in (
      (λ e. b.0 (same (omega (arith, e)) ∙ e)),
      (
        (λ e. b.1.0 (same (omega (arith, e)) ∙ e)),
        (
          (λ e. b.1.1.0 (same (omega
              (arith, e)) ∙ e)),
          (λ e. b.1.1.1 (same (omega (arith, e)) ∙ e)),
        ),
      ),
    )

encode_one : (c : ℕ) → encode_utf8_all (escaped c) ≡ flat_map escaped (encode_utf8 c)
unfolding encode
encode_one c =
    escapes (λ x es. encode_utf8_all es ≡ flat_map escaped (encode_utf8 x)) c refl refl refl refl
    (λ b. append-nil (encode_utf8 c) ∙ sym (bare_bytes (encode_utf8 c) (bare_encode c b)))

pub escaped_encodes : (cs : List ℕ) → encode_utf8_all (flat_map escaped cs) ≡ flat_map escaped (encode_utf8_all cs)
escaped_encodes [] = refl
escaped_encodes (c ∷ cs) =
    encodes-append (escaped c) (flat_map escaped cs)
    ∙ ap (λ (v : List ℕ). v ++ encode_utf8_all (flat_map escaped cs)) (encode_one c)
    ∙ ap (λ (v : List ℕ). flat_map escaped (encode_utf8 c) ++ v) (escaped_encodes cs)
    ∙ sym (flat_map-append escaped (encode_utf8 c) (encode_utf8_all cs))

-- ---- symbols

from_symbol : (c : ℕ) (cs : List ℕ) (k : TokenKind) (n : ℕ) → front_of c cs ≡ front.Symbol →
    symbol_of c (symbol_at (c ∷ cs)) ≡ Token k n
    → piece_at false (c ∷ cs) ≡ Token k n
unfolding piece_at
from_symbol c cs k n e f = ap (by_front false c cs) e ∙ f

single_symbol : (c : ℕ) (k : TokenKind) → listed singles (c ∷ []) ≡ Some k →
    ((e : ℕ) → listed pairs (c ∷ e ∷ []) ≡ None) → (rest : List ℕ)
    → symbol_of c (symbol_at (c ∷ rest)) ≡ Token k 1
unfolding symbol_at
single_symbol c k s p [] = rw s refl
single_symbol c k s p (e ∷ rest) = rw (p e, s) refl

double_symbol : (c e : ℕ) (k : TokenKind) → listed pairs (c ∷ e ∷ []) ≡ Some k → (rest : List ℕ)
    → symbol_of c (symbol_at (c ∷ e ∷ rest)) ≡ Token k 2
unfolding symbol_at
double_symbol c e k p rest = rw p refl

pub left_piece : (rest : List ℕ) → piece_at false (40 ∷ rest) ≡ Token kind.LeftParen 1
left_piece rest =
    from_symbol 40 rest kind.LeftParen 1 (rw (begins_part-ascii 40 (omega arith)) refl)
    (single_symbol 40 kind.LeftParen refl (λ e. refl) rest)

pub right_piece : (rest : List ℕ) → piece_at false (41 ∷ rest) ≡ Token kind.RightParen 1
right_piece rest =
    from_symbol 41 rest kind.RightParen 1 (rw (begins_part-ascii 41 (omega arith)) refl)
    (single_symbol 41 kind.RightParen refl (λ e. refl) rest)

pub colon_piece : (rest : List ℕ) → piece_at false (58 ∷ rest) ≡ Token kind.Colon 1
colon_piece rest =
    from_symbol 58 rest kind.Colon 1 (rw (begins_part-ascii 58 (omega arith)) refl)
    (single_symbol 58 kind.Colon refl (λ e. refl) rest)

pub backslash_piece : (rest : List ℕ) → piece_at false (92 ∷ rest) ≡ Token kind.Backslash 1
backslash_piece rest =
    from_symbol 92 rest kind.Backslash 1 (rw (begins_part-ascii 92 (omega arith)) refl)
    (single_symbol 92 kind.Backslash refl (λ e. refl) rest)

pub end_brace_piece : (rest : List ℕ) → piece_at false (125 ∷ rest) ≡ Token kind.RightBrace 1
end_brace_piece rest =
    from_symbol 125 rest kind.RightBrace 1 (rw (begins_part-ascii 125 (omega arith)) refl)
    (single_symbol 125 kind.RightBrace refl (λ e. refl) rest)

pub brace_piece : (rest : List ℕ) → begins is_dash rest ≡ false → piece_at false (123 ∷ rest) ≡ Token kind.LeftBrace 1
brace_piece rest h =
    from_symbol 123 rest kind.LeftBrace 1 (rw (h, begins_part-ascii 123 (omega arith)) refl)
    (single_symbol 123 kind.LeftBrace refl (λ e. refl) rest)

equals_symbol : (rest : List ℕ) → Separated rest → symbol_of 61 (symbol_at (61 ∷ rest)) ≡ Token kind.Equals 1
unfolding symbol_at
equals_symbol rest (before_blank cs) = refl
equals_symbol rest (before_line cs) = refl
equals_symbol rest (before_bracket cs) = refl
equals_symbol rest (before_brace cs) = refl

pub equals_piece : (rest : List ℕ) → Separated rest → piece_at false (61 ∷ rest) ≡ Token kind.Equals 1
equals_piece rest s = from_symbol 61 rest kind.Equals 1 (rw (begins_part-ascii 61 (omega arith)) refl)
    (equals_symbol rest s)

pub dot_piece : (rest : List ℕ) → piece_at false (46 ∷ 40 ∷ rest) ≡ Token kind.DotParen 2
dot_piece rest =
    from_symbol 46 (40 ∷ rest) kind.DotParen 2 (rw (begins_part-ascii 46 (omega arith)) refl)
    (double_symbol 46 40 kind.DotParen refl rest)

pub arrow_piece : (rest : List ℕ) → piece_at false (45 ∷ 62 ∷ rest) ≡ Token kind.Arrow 2
arrow_piece rest =
    from_symbol 45 (62 ∷ rest) kind.Arrow 2 (rw (begins_part-ascii 45 (omega arith)) refl)
    (double_symbol 45 62 kind.Arrow refl rest)

pub left_arrow_piece : (rest : List ℕ) → piece_at false (60 ∷ 45 ∷ rest) ≡ Token kind.LeftArrow 2
left_arrow_piece rest =
    from_symbol 60 (45 ∷ rest) kind.LeftArrow 2 (rw (begins_part-ascii 60 (omega arith)) refl)
    (double_symbol 60 45 kind.LeftArrow refl rest)

pub fat_arrow_piece : (rest : List ℕ) → piece_at false (61 ∷ 62 ∷ rest) ≡ Token kind.FatArrow 2
fat_arrow_piece rest =
    from_symbol 61 (62 ∷ rest) kind.FatArrow 2 (rw (begins_part-ascii 61 (omega arith)) refl)
    (double_symbol 61 62 kind.FatArrow refl rest)

-- ---- keywords

letter : (c : ℕ) → is_ascii_alphabetic c ≡ true → begins_part c ≡ true
letter c h = begins_part-ascii c (letter_range c h) ∙ rw h refl
  where
    letter_range : (x : ℕ) → is_ascii_alphabetic x ≡ true → x < 128
    letter_range x k = grind (arith, nat_tests)

letters_go_on : (cs : List ℕ) → list_all is_ascii_alphabetic cs ≡ true → all_go_on cs ≡ true
letters_go_on [] h = refl
letters_go_on (c ∷ cs) h =
    let g = both (is_ascii_alphabetic c) (list_all is_ascii_alphabetic cs) h in
    ap (λ (b : Bool). cond (b || ((c == 46) && begins begins_part cs)) (all_go_on cs) false)
    (continues_part-begins c (letter c g.0))
    ∙ letters_go_on cs g.1

pub letters_name : (c : ℕ) (cs : List ℕ) → list_all is_ascii_alphabetic (c ∷ cs) ≡ true →
    has_long_part (encode_utf8_all (c ∷ cs)) ≡ false
    → IsName c cs
letters_name c cs h e =
    let g = both (is_ascii_alphabetic c) (list_all is_ascii_alphabetic cs) h in
    record { begins = letter c g.0; goes_on = letters_go_on cs g.1; short = e }

-- ---- words stay on their line

abbrev pub one_line : List ℕ → Bool
one_line cs = list_all (λ c. not (c == 10)) cs

pub one_line-append : (cs ds : List ℕ) → one_line cs ≡ true → one_line ds ≡ true → one_line (cs ++ ds) ≡ true
one_line-append [] ds e f = f
one_line-append (c ∷ cs) ds e f = let g =
    both (not (c == 10)) (one_line cs) e in rw (g.0, one_line-append cs ds g.1 f) refl

line_case : (c : ℕ) → Told c 10 → (c ≡ 10 → ⊥) → not (c == 10) ≡ true
line_case c (inl e) f = absurd (f e.1)
line_case c (inr e) f = ap not e.0

no_line : (c : ℕ) → (c ≡ 10 → ⊥) → not (c == 10) ≡ true
no_line c f = line_case c (eqb_tells c 10) f

goes_on-line : (cs : List ℕ) → goes_on 10 cs ≡ false
goes_on-line cs = ap (λ (b : Bool). b || ((10 == 46) && begins begins_part cs)) (continues_part-ascii 10 (omega arith))

part_line : (c : ℕ) (cs : List ℕ) (b : Bool) → goes_on c cs ≡ b → cond b (all_go_on cs) false ≡ true
    → (not (c == 10) ≡ true) × (all_go_on cs ≡ true)
part_line c cs true e f = (no_line c (λ h. let g = sym (ap (λ (x : ℕ). goes_on x cs) h ∙ goes_on-line cs) ∙ e in cc), f)
part_line c cs false e f = absurd cc

parts_one_line : (cs : List ℕ) → all_go_on cs ≡ true → one_line cs ≡ true
parts_one_line [] e = refl
parts_one_line (c ∷ cs) e = let g = part_line c cs (goes_on c cs) refl e in rw (g.0, parts_one_line cs g.1) refl

pub name_one_line : (c : ℕ) (cs : List ℕ) → IsName c cs → one_line (c ∷ cs) ≡ true
name_one_line c cs h =
    rw (
      no_line c (λ e. let g = sym (ap begins_part e ∙ begins_part-ascii 10 (omega arith)) ∙ h.begins in cc),
      parts_one_line cs h.goes_on,
    )
    refl

digit_line : (d : ℕ) → is_ascii_digit d ≡ true → not (d == 10) ≡ true
digit_line d h = grind (arith, nat_tests)

pub digits_one_line : (ds : List ℕ) → all_ascii_digits ds ≡ true → one_line ds ≡ true
digits_one_line [] e = refl
digits_one_line (d ∷ ds) e = let g =
    both (is_ascii_digit d) (all_ascii_digits ds) e in rw (digit_line d g.0, digits_one_line ds g.1) refl

line_escaped : (c : ℕ) (rest : List ℕ) → one_line rest ≡ true → one_line (escaped c ++ rest) ≡ true
line_escaped c rest e = escapes (λ x es. one_line (es ++ rest) ≡ true) c e e e e (λ b. rw (no_line c b.0, e) refl)

pub escaped_one_line : (cs : List ℕ) → one_line (flat_map escaped cs) ≡ true
escaped_one_line [] = refl
escaped_one_line (c ∷ cs) = line_escaped c (flat_map escaped cs) (escaped_one_line cs)
