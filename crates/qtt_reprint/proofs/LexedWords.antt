-- Printed words and what stands between them, lexed.
use Rattle.std.proofs.Common.{◌≡◌, ℕ, zero, suc, ◌^◌, ◌<◌, ◌==◌, nat_lt, nat_eq, pos, negsuc, Bool, true, false, cond, List, [], ◌∷◌, ◌++◌, length, drop, replicate, Option, None, Result, Ok, Err, unwrap_or, refl, sym, ap, subst, ◌∙◌, append_assoc, arith, codes, inl, inr, ◌⊎◌}
use lib.Utf8.{encode}
use Rattle.std.proofs.lemmas.Bool.Decides.{nat_tests, eqb_tells}
use Rattle.std.proofs.lemmas.List.{length-append}
use Rattle.std.proofs.lemmas.List.Sums.{fold-append}
use Rattle.std.proofs.lemmas.Fmt.{IsAscii-from_digits, decimal_is_IsNumeral}
use Rattle.std.proofs.lemmas.Str.{IsUtf8-append, IsUtf8-nil, IsUtf8-from_ascii, chars-append, chars-IsAscii, chars_from_encodes, encodes-chars, encodes-append, scalars-chars, IsAscii-append}
use Rattle.std.proofs.lemmas.Str.Ascii.{IsAscii-nil, IsAscii-cons}
use Rattle.std.proofs.Math.Seq.{take-append_seam, drop-append_seam}
use Rattle.std.specs.Cmp.Lexicographic.{pointwise}
use Rattle.std.specs.List.{list_all, flat_map}
use Rattle.std.specs.Fmt as fmt
use Rattle.std.specs.Str.{IsUtf8, IsAscii, chars, encode_utf8_all}
use Rattle.qtt_lexer.specs.Characters.{begins, begins_part}
use Rattle.qtt_lexer.specs.Forms.{Spells}
use Rattle.qtt_lexer.specs.Piece.{is_dash, piece_at, reserved, names_hole, decimal}
use Rattle.qtt_lexer.specs.Place.{place_behind, place_after}
use Rattle.qtt_lexer.specs.Lexed.{tokens_from, by_piece, token, put_first, with_front, Mistake}
use Rattle.qtt_lexer.specs.declared.place.Place.{Place}
use Rattle.qtt_lexer.specs.declared.piece.Piece.{Piece}
use Rattle.qtt_lexer.specs.declared.piece.Piece.TheVariants as piece
use Rattle.qtt_lexer.specs.declared.token.Token.{Token}
use Rattle.qtt_lexer.specs.declared.token.TokenKind.{TokenKind}
use Rattle.qtt_lexer.specs.declared.token.TokenKind.TheVariants as kind
use Rattle.qtt_lexer.proofs.Ascii.{begins_part-ascii}
use Rattle.qtt_lexer.proofs.Lexing.{tokens_from-token}
use Rattle.qtt_layout.specs.declared.role.Role.{Role}
use Rattle.qtt_syntax.specs.Words.{Word, Printed, escaped, spelled, written_as, written}
use Rattle.qtt_syntax.specs.Words.Word.{sign, named, numeral, bare_type, type_at, quoted, hole_named}
use Rattle.qtt_syntax.specs.Words.Printed.{word, blank, line, opened, next, closed}
use Rattle.qtt_reprint.specs.Sketch.{sign_kind}
use Rattle.qtt_reprint.proofs.Forms.{same_names}
use Rattle.std.specs.Str.{all_ascii_digits}
use Rattle.qtt_reprint.proofs.Lexing.{both, one_line, one_line-append, name_one_line, digits_one_line, escaped_one_line, digit_first, digit_no_dash, Separated, name_piece, hole_piece, Digits, decimal_digits, number_piece, negative_piece, text_piece, escaped_spells, escaped_scalars, escaped_encodes, left_piece, right_piece, colon_piece, backslash_piece, end_brace_piece, brace_piece, equals_piece, dot_piece, arrow_piece, left_arrow_piece, fat_arrow_piece, letters_name}
use Rattle.qtt_reprint.proofs.Lexing.Separated.{before_blank, before_line, before_bracket, before_brace}
use Rattle.qtt_reprint.proofs.Steps.{Fit, Names, Named_well, Hole_well, Left, Loose, spaced, Sign, IsWord, Follows, State, Step, Runs, is_end_brace, begins_with_dash}
use Rattle.qtt_reprint.proofs.Steps.Left.{free, wordy, typed, typed_blank, brace}
use Rattle.qtt_reprint.proofs.Steps.Loose.{loose_free, loose_wordy, loose_typed}
use Rattle.qtt_reprint.proofs.Steps.Sign.{module_sign, import_sign, data_sign, where_sign, do_sign, let_sign, in_sign, partial_sign, the_sign, left_sign, dot_sign, arrow_sign, left_arrow_sign, fat_arrow_sign, colon_sign, equals_sign, backslash_sign, brace_sign, end_brace_sign}
use Rattle.qtt_reprint.proofs.Steps.IsWord.{a_sign, a_name, a_numeral, a_type, a_level, a_text, a_hole}
use Rattle.qtt_reprint.proofs.Steps.State.{at}
use Rattle.qtt_reprint.proofs.Steps.Step.{plain_word, opener_word, left_bracket, right_bracket, a_blank, breaks, resumes, ends_item, begins_item, opens, indents, empties, shuts}

-- ---- tokens of words

abbrev pub word_kind : Word → TokenKind
word_kind (sign s) = sign_kind s
word_kind (named n) = cond (pointwise nat_eq n (codes "_")) kind.Wildcard (kind.Name n)
word_kind (numeral z) = kind.Number z
word_kind bare_type = kind.Type
word_kind (type_at l) = kind.Type
word_kind (quoted v) = kind.Text v
word_kind (hole_named n) = kind.Hole n

-- the one token of a word
abbrev pub word_token : Place → Word → Token
word_token p w = token (word_kind w) p (chars (spelled w))

-- the tokens of a word from a place on
abbrev pub word_tokens : Place → Word → List Token
word_tokens p (sign s) = word_token p (sign s) ∷ []
word_tokens p (named n) = word_token p (named n) ∷ []
word_tokens p (numeral z) = word_token p (numeral z) ∷ []
word_tokens p bare_type = word_token p bare_type ∷ []
word_tokens p (type_at l) =
    token kind.Type p (codes "Type") ∷ token (kind.Number (pos l)) (place_after p (codes "Type ")) (fmt.decimal l) ∷ []
word_tokens p (quoted v) = word_token p (quoted v) ∷ []
word_tokens p (hole_named n) = word_token p (hole_named n) ∷ []

abbrev pub tokens_at : Place → Printed → List Token
tokens_at p (word w) = word_tokens p w
tokens_at p blank = []
tokens_at p (line n) = []
tokens_at p opened = []
tokens_at p next = []
tokens_at p closed = []

-- the place behind what is written for it
abbrev pub behind_written : Place → Printed → Place
behind_written p q = place_after p (chars (written_as q))

abbrev pub printed_tokens : Place → List Printed → List Token
printed_tokens p [] = []
printed_tokens p (q ∷ qs) = tokens_at p q ++ printed_tokens (behind_written p q) qs

-- what may follow
abbrev pub Allows : Left → List ℕ → Type 0
Allows free rest = Unit {0}
Allows wordy rest = Separated rest
Allows typed rest = Separated rest
Allows typed_blank rest = Unit {0}
Allows brace rest = begins is_dash rest ≡ false

-- a word is lexed as its tokens
pub record Lexes (w : Word) (b : Left) : Type 0 where
  pub utf8 : IsUtf8 (spelled w)
  pub head : ℕ
  pub tail : List ℕ
  pub are : chars (spelled w) ≡ head ∷ tail
  pub one_line : one_line (head ∷ tail) ≡ true
  pub undashed : begins_with_dash w ≡ false → (head == 45) ≡ false
  pub closes : is_end_brace w ≡ true → head ≡ 125
  pub lex : (p : Place) (rest : List ℕ) → Allows b rest
      → tokens_from false p 0 (chars (spelled w) ++ rest)
      ≡ with_front (word_tokens p w) (tokens_from false (place_after p (chars (spelled w))) 0 rest)

-- ---- steps of the lexer

put_front : (t : Token) (r : Result (List Token) Mistake) → put_first t r ≡ with_front (t ∷ []) r
put_front t (Ok ts) = refl
put_front t (Err m) = refl

token_step : (p : Place) (k : TokenKind) (cs rest : List ℕ) → 0 < length cs →
    piece_at false (cs ++ rest) ≡ piece.Token k (length cs)
    → tokens_from false p 0 (cs ++ rest) ≡ with_front (token k p cs ∷ []) (tokens_from false (place_after p cs) 0 rest)
token_step p k cs rest some e =
    tokens_from-token false p k (length cs) (cs ++ rest) (omega (arith, some, length-append cs rest)) (sym e) some
    (omega (arith, length-append cs rest))
    ∙ ap (λ (ds : List ℕ). put_first (token k p ds)
    (tokens_from false (place_after p ds) 0 (drop (length cs) (cs ++ rest))))
    (take-append_seam cs rest)
    ∙ ap (λ (ds : List ℕ). put_first (token k p cs) (tokens_from false (place_after p cs) 0 ds))
    (drop-append_seam cs rest)
    ∙ put_front (token k p cs) (tokens_from false (place_after p cs) 0 rest)

gap_step : (p : Place) (c : ℕ) (rest : List ℕ) → piece_at false (c ∷ rest) ≡ piece.Gap 1
    → tokens_from false p 0 (c ∷ rest) ≡ tokens_from false (place_behind p c) 0 rest
unfolding tokens_from
gap_step p c rest e = ap (λ (q : Piece). by_piece p (c ∷ rest) q (λ n. tokens_from false (place_behind p c) n rest)) e

blank_step : (p : Place) (rest : List ℕ) →
    tokens_from false p 0 (32 ∷ rest) ≡ tokens_from false (place_behind p 32) 0 rest
unfolding piece_at
blank_step p rest = gap_step p 32 rest refl

line_step : (p : Place) (rest : List ℕ) →
    tokens_from false p 0 (10 ∷ rest) ≡ tokens_from false (place_behind p 10) 0 rest
unfolding piece_at
line_step p rest = gap_step p 10 rest refl

blanks_step : (n : ℕ) (p : Place) (rest : List ℕ)
    → tokens_from false p 0 (replicate n 32 ++ rest) ≡ tokens_from false (place_after p (replicate n 32)) 0 rest
blanks_step zero p rest = refl
blanks_step (suc n) p rest = blank_step p (replicate n 32 ++ rest) ∙ blanks_step n (place_behind p 32) rest

front_none : (r : Result (List Token) Mistake) → with_front [] r ≡ r
front_none (Ok ts) = refl
front_none (Err m) = refl

front_front : (xs ys : List Token) (r : Result (List Token) Mistake) →
    with_front xs (with_front ys r) ≡ with_front (xs ++ ys) r
front_front xs ys (Ok ts) = ap Ok (sym (append_assoc xs ys ts))
front_front xs ys (Err m) = refl

-- ---- a word of one token

single : (w : Word) (b : Left) (c : ℕ) (cs : List ℕ) → ((p : Place) → word_tokens p w ≡ word_token p w ∷ []) →
    IsUtf8 (spelled w)
    → chars (spelled w) ≡ c ∷ cs → one_line (c ∷ cs) ≡ true → (begins_with_dash w ≡ false → (c == 45) ≡ false)
    → (is_end_brace w ≡ true → c ≡ 125)
    → ((rest : List ℕ) → Allows b rest →
    piece_at false (c ∷ (cs ++ rest)) ≡ piece.Token (word_kind w) (suc (length cs))) → Lexes w b
single w b c cs t u e o d f g = record {
  utf8 = u;
  head = c;
  tail = cs;
  are = e;
  one_line = o;
  undashed = d;
  closes = f;
  lex = λ p rest a.
      token_step p (word_kind w) (chars (spelled w)) rest (subst (λ (ds : List ℕ). 0 < length ds) (sym e) (omega arith))
      (subst (λ (ds : List ℕ). piece_at false (ds ++ rest) ≡ piece.Token (word_kind w) (length ds)) (sym e) (g rest a))
      ∙ ap (λ (ts : List Token). with_front ts (tokens_from false (place_after p (chars (spelled w))) 0 rest))
      (sym (t p));
}

pub ascii_list : (bs : List ℕ) → list_all (λ b. nat_lt b 128) bs ≡ true → IsAscii bs
ascii_list [] h = IsAscii-nil
ascii_list (b ∷ bs) h =
    let g = both (nat_lt b 128) (list_all (λ x. nat_lt x 128) bs) h in IsAscii-cons b bs (below b g.0)
    (ascii_list bs g.1)
  where
    below : (x : ℕ) → nat_lt x 128 ≡ true → x < 128
    below x k = grind (arith, nat_tests)

signed : (c : ℕ) (cs : List ℕ) (b : Left) → list_all (λ x. nat_lt x 128) (c ∷ cs) ≡ true → one_line (c ∷ cs) ≡ true
    → (is_end_brace (sign (c ∷ cs)) ≡ true → c ≡ 125)
    → ((rest : List ℕ) → Allows b rest →
    piece_at false (c ∷ (cs ++ rest)) ≡ piece.Token (sign_kind (c ∷ cs)) (suc (length cs)))
    → Lexes (sign (c ∷ cs)) b
signed c cs b h o f g =
    single (sign (c ∷ cs)) b c cs (λ p. refl) (IsUtf8-from_ascii (c ∷ cs) (ascii_list (c ∷ cs) h))
    (chars-IsAscii (c ∷ cs) (ascii_list (c ∷ cs) h)) o (λ e. e) f g

sign_lexes : {s : List ℕ} {b : Left} {r : Role} → Sign s b r → Lexes (sign s) b
unfolding reserved encode
sign_lexes module_sign =
    signed 109 (codes "odule") wordy refl refl (λ e. absurd cc)
    (λ rest a. name_piece 109 (codes "odule") rest (letters_name 109 (codes "odule") refl refl) a)
sign_lexes import_sign =
    signed 105 (codes "mport") wordy refl refl (λ e. absurd cc)
    (λ rest a. name_piece 105 (codes "mport") rest (letters_name 105 (codes "mport") refl refl) a)
sign_lexes data_sign =
    signed 100 (codes "ata") wordy refl refl (λ e. absurd cc)
    (λ rest a. name_piece 100 (codes "ata") rest (letters_name 100 (codes "ata") refl refl) a)
sign_lexes where_sign =
    signed 119 (codes "here") wordy refl refl (λ e. absurd cc)
    (λ rest a. name_piece 119 (codes "here") rest (letters_name 119 (codes "here") refl refl) a)
sign_lexes do_sign =
    signed 100 (codes "o") wordy refl refl (λ e. absurd cc)
    (λ rest a. name_piece 100 (codes "o") rest (letters_name 100 (codes "o") refl refl) a)
sign_lexes let_sign =
    signed 108 (codes "et") wordy refl refl (λ e. absurd cc)
    (λ rest a. name_piece 108 (codes "et") rest (letters_name 108 (codes "et") refl refl) a)
sign_lexes in_sign =
    signed 105 (codes "n") wordy refl refl (λ e. absurd cc)
    (λ rest a. name_piece 105 (codes "n") rest (letters_name 105 (codes "n") refl refl) a)
sign_lexes partial_sign =
    signed 112 (codes "artial") wordy refl refl (λ e. absurd cc)
    (λ rest a. name_piece 112 (codes "artial") rest (letters_name 112 (codes "artial") refl refl) a)
sign_lexes the_sign =
    signed 116 (codes "he") wordy refl refl (λ e. absurd cc)
    (λ rest a. name_piece 116 (codes "he") rest (letters_name 116 (codes "he") refl refl) a)
sign_lexes left_sign = signed 40 [] free refl refl (λ e. absurd cc) (λ rest a. left_piece rest)
sign_lexes dot_sign = signed 46 (codes "(") free refl refl (λ e. absurd cc) (λ rest a. dot_piece rest)
sign_lexes arrow_sign = signed 45 (codes ">") free refl refl (λ e. absurd cc) (λ rest a. arrow_piece rest)
sign_lexes left_arrow_sign = signed 60 (codes "-") free refl refl (λ e. absurd cc) (λ rest a. left_arrow_piece rest)
sign_lexes fat_arrow_sign = signed 61 (codes ">") free refl refl (λ e. absurd cc) (λ rest a. fat_arrow_piece rest)
sign_lexes colon_sign = signed 58 [] free refl refl (λ e. absurd cc) (λ rest a. colon_piece rest)
sign_lexes equals_sign = signed 61 [] wordy refl refl (λ e. absurd cc) (λ rest a. equals_piece rest a)
sign_lexes backslash_sign = signed 92 [] free refl refl (λ e. absurd cc) (λ rest a. backslash_piece rest)
sign_lexes brace_sign = signed 123 [] brace refl refl (λ e. absurd cc) (λ rest a. brace_piece rest a)
sign_lexes end_brace_sign = signed 125 [] free refl refl (λ e. refl) (λ rest a. end_brace_piece rest)

pub right_lexes : Lexes (sign (codes ")")) free
right_lexes = signed 41 [] free refl refl (λ e. absurd cc) (λ rest a. right_piece rest)

-- ---- names and holes

blank_name : (b : Bool) (n : List ℕ) → pointwise nat_eq n (codes "_") ≡ b → reserved n ≡ None
    → unwrap_or (reserved n) (kind.Name n) ≡ cond b kind.Wildcard (kind.Name n)
unfolding reserved
blank_name true n e h = absurd (let g = sym (ap reserved (same_names n (codes "_") e)) ∙ h in cc)
blank_name false n e h = ap (λ (o : Option TokenKind). unwrap_or o (kind.Name n)) h

named_kind : (n : List ℕ) → (reserved n ≡ None) ⊎ (n ≡ codes "_") →
    unwrap_or (reserved n) (kind.Name n) ≡ word_kind (named n)
unfolding reserved
named_kind n (inl h) = blank_name (pointwise nat_eq n (codes "_")) n refl h
named_kind n (inr h) = subst (λ (m : List ℕ). unwrap_or (reserved m) (kind.Name m) ≡ word_kind (named m)) (sym h) refl

no_dash : (c : ℕ) → begins_part c ≡ true → (c == 45) ≡ false
no_dash c h = dash_case (eqb_tells c 45)
  where
    dash_case : (((c == 45) ≡ true) × (c ≡ 45)) ⊎ (((c == 45) ≡ false) × (c ≡ 45 → ⊥)) → (c == 45) ≡ false
    dash_case (inl e) = absurd (let g = sym h ∙ ap begins_part e.1 ∙ begins_part-ascii 45 (omega arith) in cc)
    dash_case (inr e) = e.0

same_word : (n : List ℕ) (u : IsUtf8 n) (g : Names (chars n)) → encode_utf8_all (g.head ∷ g.tail) ≡ n
same_word n u g = ap encode_utf8_all (sym g.are) ∙ encodes-chars n u

name_lexes : (n : List ℕ) → Named_well n → Lexes (named n) wordy
name_lexes n f =
    let g = f.names in
    let same = same_word n f.utf8 g in
    single (named n) wordy g.head g.tail (λ p. refl) f.utf8 g.are (name_one_line g.head g.tail g.form)
    (λ e. no_dash g.head g.form.begins)
    (λ e. absurd cc)
    (λ rest a. name_piece g.head g.tail rest g.form a
    ∙ ap (λ (m : List ℕ). piece.Token (unwrap_or (reserved m) (kind.Name m)) (suc (length g.tail))) same
    ∙ ap (λ (k : TokenKind). piece.Token k (suc (length g.tail))) (named_kind n f.free))

mark_ascii : IsAscii (63 ∷ [])
mark_ascii = ascii_list (63 ∷ []) refl

hole_lexes : (n : List ℕ) → Hole_well n → Lexes (hole_named n) wordy
hole_lexes n f =
    let g = f.names in
    let same = same_word n f.utf8 g in
    let utf8 = IsUtf8-append (63 ∷ []) n (IsUtf8-from_ascii (63 ∷ []) mark_ascii) f.utf8 in
    let are : chars (63 ∷ n) ≡ 63 ∷ g.head ∷ g.tail =
    chars-append (63 ∷ []) n (IsUtf8-from_ascii (63 ∷ []) mark_ascii)
    ∙ ap (λ (v : List ℕ). v ++ chars n) (chars-IsAscii (63 ∷ []) mark_ascii)
    ∙ ap (λ (v : List ℕ). 63 ∷ v) g.are in
    single (hole_named n) wordy 63 (g.head ∷ g.tail) (λ p. refl) utf8 are (name_one_line g.head g.tail g.form)
    (λ e. refl) (λ e. absurd cc)
    (λ rest a. hole_piece g.head g.tail rest g.form a (ap names_hole same ∙ f.simple)
    ∙ ap (λ (m : List ℕ). piece.Token (kind.Hole m) (suc (suc (length g.tail)))) same)

-- ---- numbers, texts and `Type`

below_64 : (n : ℕ) → n < 2 ^ 63 → n < 2 ^ 64
below_64 n h = omega (arith, h)

decimal_ascii : (n : ℕ) → n < 2 ^ 64 → IsAscii (fmt.decimal n)
decimal_ascii n h = IsAscii-from_digits (fmt.decimal n) (decimal_is_IsNumeral n h).0.1

digit_head : (ds : List ℕ) (n : ℕ) (g : Digits ds n) → (g.head == 45) ≡ false
digit_head ds n g = digit_no_dash g.head (digit_first g.head g.tail (ap all_ascii_digits (sym g.are) ∙ g.all))

numeral_lexes : (z : _) → Fit (numeral z) → Lexes (numeral z) wordy
numeral_lexes (pos n) h =
    let g = decimal_digits n (below_64 n h) in
    let ascii = decimal_ascii n (below_64 n h) in
    single (numeral (pos n)) wordy g.head g.tail (λ p. refl) (IsUtf8-from_ascii (fmt.decimal n) ascii)
    (chars-IsAscii (fmt.decimal n) ascii ∙ g.are)
    (digits_one_line (g.head ∷ g.tail) (ap all_ascii_digits (sym g.are) ∙ g.all))
    (λ e. digit_head (fmt.decimal n) n g) (λ e. absurd cc)
    (λ rest a. number_piece g.head g.tail rest n (ap all_ascii_digits (sym g.are) ∙ g.all)
    (ap decimal (sym g.are) ∙ g.value) h a)
numeral_lexes (negsuc n) h =
    let below : suc n < 2 ^ 64 = omega (arith, h) in
    let g = decimal_digits (suc n) below in
    let ascii = IsAscii-cons 45 (fmt.decimal (suc n)) (omega arith) (decimal_ascii (suc n) below) in
    single (numeral (negsuc n)) wordy 45 (g.head ∷ g.tail) (λ p. refl)
    (IsUtf8-from_ascii (45 ∷ fmt.decimal (suc n)) ascii)
    (chars-IsAscii (45 ∷ fmt.decimal (suc n)) ascii ∙ ap (λ (v : List ℕ). 45 ∷ v) g.are)
    (digits_one_line (g.head ∷ g.tail) (ap all_ascii_digits (sym g.are) ∙ g.all)) (λ e. absurd cc) (λ e. absurd cc)
    (λ rest a. negative_piece g.head g.tail rest n (ap all_ascii_digits (sym g.are) ∙ g.all)
    (ap decimal (sym g.are) ∙ g.value) h a)

type_piece : (rest : List ℕ) → Separated rest → piece_at false (84 ∷ (codes "ype" ++ rest)) ≡ piece.Token kind.Type 4
unfolding reserved encode
type_piece rest a = name_piece 84 (codes "ype") rest (letters_name 84 (codes "ype") refl refl) a

type_lexes : Lexes bare_type typed
type_lexes =
    single bare_type typed 84 (codes "ype") (λ p. refl)
    (IsUtf8-from_ascii (codes "Type") (ascii_list (codes "Type") refl))
    (chars-IsAscii (codes "Type") (ascii_list (codes "Type") refl)) refl (λ e. refl) (λ e. absurd cc) type_piece

level_steps : (l : ℕ) → l < 2 ^ 63 → (p : Place) (rest : List ℕ) → Separated rest
    → tokens_from false p 0 ((codes "Type " ++ fmt.decimal l) ++ rest)
    ≡ with_front (word_tokens p (type_at l)) (tokens_from false (place_after p (codes "Type " ++ fmt.decimal l)) 0 rest)
level_steps l h p rest a =
    let ds = fmt.decimal l in
    let g = decimal_digits l (below_64 l h) in
    let some : 0 < length ds = subst (λ (es : List ℕ). 0 < length es) (sym g.are) (omega arith) in
    let number : piece_at false (ds ++ rest) ≡ piece.Token (kind.Number (pos l)) (length ds) =
    subst (λ (es : List ℕ). piece_at false (es ++ rest) ≡ piece.Token (kind.Number (pos l)) (length es)) (sym g.are)
    (number_piece g.head g.tail rest l (ap all_ascii_digits (sym g.are) ∙ g.all)
    (ap decimal (sym g.are) ∙ g.value) h a) in
    token_step p kind.Type (codes "Type") (32 ∷ (ds ++ rest)) (omega arith)
    (type_piece (32 ∷ (ds ++ rest)) (before_blank (ds ++ rest)))
    ∙ ap (with_front (token kind.Type p (codes "Type") ∷ []))
    (blank_step (place_after p (codes "Type")) (ds ++ rest)
    ∙ token_step (place_after p (codes "Type ")) (kind.Number (pos l)) ds rest some number)
    ∙ front_front (token kind.Type p (codes "Type") ∷ [])
    (token (kind.Number (pos l)) (place_after p (codes "Type ")) ds ∷ [])
    (tokens_from false (place_after p (codes "Type " ++ ds)) 0 rest)

level_lexes : (l : ℕ) → l < 2 ^ 63 → Lexes (type_at l) wordy
level_lexes l h =
    let ds = fmt.decimal l in
    let ascii = IsAscii-append (codes "Type ") ds (ascii_list (codes "Type ") refl) (decimal_ascii l (below_64 l h)) in
    let are : chars (codes "Type " ++ ds) ≡ codes "Type " ++ ds = chars-IsAscii (codes "Type " ++ ds) ascii in
    record {
      utf8 = IsUtf8-from_ascii (codes "Type " ++ ds) ascii;
      head = 84;
      tail = codes "ype " ++ ds;
      are = are;
      one_line = digits_one_line ds (decimal_digits l (below_64 l h)).all;
      undashed = λ e. refl;
      closes = λ e. absurd cc;
      lex =
          λ p rest a. subst
          (λ (cs : List ℕ). tokens_from false p 0 (cs ++ rest)
          ≡ with_front (word_tokens p (type_at l)) (tokens_from false (place_after p cs) 0 rest))
          (sym are) (level_steps l h p rest a);
    }

quote_ascii : IsAscii (34 ∷ [])
quote_ascii = ascii_list (34 ∷ []) refl

module _ (v : List ℕ) (u : IsUtf8 v) where
  abbrev body : List ℕ
  body = flat_map escaped (chars v)

  body_encodes : encode_utf8_all body ≡ flat_map escaped v
  body_encodes = escaped_encodes (chars v) ∙ ap (flat_map escaped) (encodes-chars v u)

  body_utf8 : IsUtf8 (flat_map escaped v)
  body_utf8 = (body, (escaped_scalars (chars v) (scalars-chars v u), body_encodes))

  text_utf8 : IsUtf8 (34 ∷ (flat_map escaped v ++ 34 ∷ []))
  text_utf8 =
      IsUtf8-append (34 ∷ []) (flat_map escaped v ++ 34 ∷ []) (IsUtf8-from_ascii (34 ∷ []) quote_ascii)
      (IsUtf8-append (flat_map escaped v) (34 ∷ []) body_utf8 (IsUtf8-from_ascii (34 ∷ []) quote_ascii))

  text_encodes : encode_utf8_all (34 ∷ (body ++ 34 ∷ [])) ≡ 34 ∷ (flat_map escaped v ++ 34 ∷ [])
  unfolding encode
  text_encodes = ap (λ (x : List ℕ). 34 ∷ x)
      (encodes-append body (34 ∷ []) ∙ ap (λ (x : List ℕ). x ++ 34 ∷ []) body_encodes)

  text_spells : Spells body v
  text_spells = subst (Spells body) (encodes-chars v u) (escaped_spells (chars v))

  text_lexes : Lexes (quoted v) free
  text_lexes =
      single (quoted v) free 34 (body ++ 34 ∷ []) (λ p. refl) text_utf8
      (sym (chars_from_encodes (34 ∷ (body ++ 34 ∷ [])) (34 ∷ (flat_map escaped v ++ 34 ∷ [])) text_utf8 text_encodes))
      (one_line-append body (34 ∷ []) (escaped_one_line (chars v)) refl) (λ e. refl) (λ e. absurd cc)
      (λ rest a. text_piece body v rest text_spells)

pub word_lexes : {w : Word} {b : Left} {r : Role} → IsWord w b r → Lexes w b
word_lexes (a_sign i) = sign_lexes i
word_lexes (a_name {n} f) = name_lexes n f
word_lexes (a_numeral {z} f) = numeral_lexes z f
word_lexes a_type = type_lexes
word_lexes (a_level {l} f) = level_lexes l f
word_lexes (a_text {v} f) = text_lexes v f
word_lexes (a_hole {n} f) = hole_lexes n f

-- ---- what stands between words

follow_allows : (l b : Left) (w : Word) → Lexes w b → Follows l w →
    (rest : List ℕ) → Allows l (chars (spelled w) ++ rest)
follow_allows free b w x f rest = tt
follow_allows wordy b w x f rest =
    subst (λ (cs : List ℕ). Separated (cs ++ rest)) (sym x.are)
    (subst (λ (c : ℕ). Separated (c ∷ (x.tail ++ rest))) (sym (x.closes f)) (before_brace (x.tail ++ rest)))
follow_allows typed b w x f rest =
    subst (λ (cs : List ℕ). Separated (cs ++ rest)) (sym x.are)
    (subst (λ (c : ℕ). Separated (c ∷ (x.tail ++ rest))) (sym (x.closes f)) (before_brace (x.tail ++ rest)))
follow_allows typed_blank b w x f rest = tt
follow_allows brace b w x f rest =
    subst (λ (cs : List ℕ). begins is_dash (cs ++ rest) ≡ false) (sym x.are) (x.undashed f)

blank_allows : (l : Left) (rest : List ℕ) → Allows l (32 ∷ rest)
blank_allows free rest = tt
blank_allows wordy rest = before_blank rest
blank_allows typed rest = before_blank rest
blank_allows typed_blank rest = tt
blank_allows brace rest = refl

line_allows : (l : Left) (rest : List ℕ) → Allows l (10 ∷ rest)
line_allows free rest = tt
line_allows wordy rest = before_line rest
line_allows typed rest = before_line rest
line_allows typed_blank rest = tt
line_allows brace rest = refl

right_allows : (l : Left) (rest : List ℕ) → Loose l → Allows l (41 ∷ rest)
right_allows l rest loose_free = tt
right_allows l rest loose_wordy = before_bracket rest
right_allows l rest loose_typed = before_bracket rest

pub record Lexed (l : Left) (ps : List Printed) (b : Left) : Type 0 where
  pub utf8 : IsUtf8 (written ps)
  pub lex : (p : Place) (rest : List ℕ) → Allows b rest
      → tokens_from false p 0 (chars (written ps) ++ rest)
      ≡ with_front (printed_tokens p ps) (tokens_from false (place_after p (chars (written ps))) 0 rest)
  pub allows : (rest : List ℕ) → Allows b rest → Allows l (chars (written ps) ++ rest)

record Element (l : Left) (q : Printed) (b : Left) : Type 0 where
  utf8 : IsUtf8 (written_as q)
  lex : (p : Place) (rest : List ℕ) → Allows b rest
      → tokens_from false p 0 (chars (written_as q) ++ rest) ≡ with_front (tokens_at p q)
      (tokens_from false (behind_written p q) 0 rest)
  allows : (rest : List ℕ) → Allows b rest → Allows l (chars (written_as q) ++ rest)

of_word : (l b : Left) (w : Word) → Lexes w b → ((rest : List ℕ) → Allows l (chars (spelled w) ++ rest)) →
    Element l (word w) b
of_word l b w x f = record { utf8 = x.utf8; lex = x.lex; allows = λ rest a. f rest }

between : (l b : Left) (q : Printed) (cs : List ℕ) → IsUtf8 (written_as q) → chars (written_as q) ≡ cs →
    ((p : Place) → tokens_at p q ≡ [])
    → ((p : Place) (rest : List ℕ) → tokens_from false p 0 (cs ++ rest) ≡ tokens_from false (place_after p cs) 0 rest)
    → ((rest : List ℕ) → Allows b rest → Allows l (cs ++ rest)) → Element l q b
between l b q cs u e t f g = record {
  utf8 = u;
  lex = λ p rest a.
      subst (λ (ds : List ℕ). tokens_from false p 0 (ds ++ rest) ≡ with_front (tokens_at p q)
      (tokens_from false (place_after p ds) 0 rest))
      (sym e)
      (f p rest ∙ sym (front_none (tokens_from false (place_after p cs) 0 rest))
      ∙ ap (λ (ts : List Token). with_front ts (tokens_from false (place_after p cs) 0 rest)) (sym (t p)));
  allows = λ rest a. subst (λ (ds : List ℕ). Allows l (ds ++ rest)) (sym e) (g rest a);
}

blank_element : (l b : Left) → Element l blank b
blank_element l b =
    let ascii =
    ascii_list (32 ∷ []) refl in between l b blank (32 ∷ []) (IsUtf8-from_ascii (32 ∷ []) ascii)
    (chars-IsAscii (32 ∷ []) ascii) (λ p. refl)
    blank_step (λ rest a. blank_allows l rest)

blanks_ascii : (n : ℕ) → IsAscii (replicate n 32)
blanks_ascii zero = IsAscii-nil
blanks_ascii (suc n) = IsAscii-cons 32 (replicate n 32) (omega arith) (blanks_ascii n)

pub blank_chars : chars (32 ∷ []) ≡ 32 ∷ []
blank_chars = chars-IsAscii (32 ∷ []) (ascii_list (32 ∷ []) refl)

pub line_chars : (n : ℕ) → chars (10 ∷ replicate n 32) ≡ 10 ∷ replicate n 32
line_chars n = chars-IsAscii (10 ∷ replicate n 32) (IsAscii-cons 10 (replicate n 32) (omega arith) (blanks_ascii n))

line_element : (l b : Left) (n : ℕ) → Element l (line n) b
line_element l b n =
    let ascii = IsAscii-cons 10 (replicate n 32) (omega arith) (blanks_ascii n) in
    between l b (line n) (10 ∷ replicate n 32) (IsUtf8-from_ascii (10 ∷ replicate n 32) ascii) (line_chars n)
    (λ p. refl)
    (λ p rest. line_step p (replicate n 32 ++ rest) ∙ blanks_step n (place_behind p 10) rest)
    (λ rest a. line_allows l (replicate n 32 ++ rest))

pub no_chars : chars [] ≡ []
unfolding chars
no_chars = refl

mark_element : (l : Left) (q : Printed) → written_as q ≡ [] → ((p : Place) → tokens_at p q ≡ []) → Element l q l
mark_element l q e t = between l l q [] (subst IsUtf8 (sym e) IsUtf8-nil) (ap chars e ∙ no_chars) t
    (λ p rest. refl) (λ rest a. a)

abbrev pub left_of : State → Left
left_of (at l m bs k) = l

step_element : {s v : State} {q : Printed} → Step s q v → Element (left_of s) q (left_of v)
step_element (plain_word {l} {b} {m} {bs} {k} {w} r i f) = let x =
    word_lexes i in of_word l b w x (follow_allows l b w x f)
step_element (opener_word {l} {b} {m} {bs} {k} {w} r i f) = let x =
    word_lexes i in of_word l b w x (follow_allows l b w x f)
step_element (left_bracket {l} {b} {m} {bs} {k} {w} r i f) = let x =
    word_lexes i in of_word l b w x (follow_allows l b w x f)
step_element (right_bracket {l} o a u) =
    of_word l free (sign (codes ")")) right_lexes
    (λ rest. subst (λ (cs : List ℕ). Allows l (cs ++ rest))
    (sym (chars-IsAscii (codes ")") (ascii_list (codes ")") refl)))
    (right_allows l rest o))
step_element (a_blank {l}) = blank_element l (spaced l)
step_element (breaks {l} n) = line_element l (spaced l) n
step_element (resumes {l} d u) = blank_element l l
step_element (ends_item {l}) = mark_element l next refl (λ p. refl)
step_element (begins_item {l} {e} {shut} {bs} {k} {n} d u) = line_element l free n
step_element (opens {l}) = mark_element l opened refl (λ p. refl)
step_element (indents {l} {bs} {k} {n} u) = line_element l free n
step_element (empties {l}) = mark_element l closed refl (λ p. refl)
step_element (shuts {l} e) = mark_element l closed refl (λ p. refl)

none_lexed : (l : Left) → Lexed l [] l
none_lexed l = record {
  utf8 = IsUtf8-nil;
  lex =
      λ p rest a. subst (λ (cs : List ℕ). tokens_from false p 0 (cs ++ rest) ≡ with_front []
      (tokens_from false (place_after p cs) 0 rest))
      (sym no_chars) (sym (front_none (tokens_from false p 0 rest)));
  allows = λ rest a. subst (λ (cs : List ℕ). Allows l (cs ++ rest)) (sym no_chars) a;
}

more_lexed : (l b d : Left) (q : Printed) (qs : List Printed) → Element l q b → Lexed b qs d → Lexed l (q ∷ qs) d
more_lexed l b d q qs x y =
    let cs = chars (written_as q) in
    let ds = chars (written qs) in
    let are : chars (written_as q ++ written qs) ≡ cs ++ ds = chars-append (written_as q) (written qs) x.utf8 in
    record {
      utf8 = IsUtf8-append (written_as q) (written qs) x.utf8 y.utf8;
      lex = λ p rest a.
          let behind = behind_written p q in
          ap (tokens_from false p 0) (ap (λ (v : List ℕ). v ++ rest) are ∙ append_assoc cs ds rest)
          ∙ x.lex p (ds ++ rest) (y.allows rest a)
          ∙ ap (with_front (tokens_at p q)) (y.lex behind rest a)
          ∙ front_front (tokens_at p q) (printed_tokens behind qs) (tokens_from false (place_after behind ds) 0 rest)
          ∙ ap (λ (v : Place). with_front (printed_tokens p (q ∷ qs)) (tokens_from false v 0 rest))
          (sym (fold-append place_behind p cs ds) ∙ ap (place_after p) (sym are));
      allows =
          λ rest a. subst (Allows l) (sym (ap (λ (v : List ℕ). v ++ rest) are ∙ append_assoc cs ds rest))
          (x.allows (ds ++ rest) (y.allows rest a));
    }

-- words and marks that lead from state to state are lexed as their tokens
pub runs_lexed : (s u : State) (ps : List Printed) → Runs s ps u → Lexed (left_of s) ps (left_of u)
runs_lexed s u [] e = subst (λ (x : State). Lexed (left_of s) [] (left_of x)) e (none_lexed (left_of s))
runs_lexed s u (q ∷ qs) (v, (t, r)) =
    more_lexed (left_of s) (left_of v) (left_of u) q qs (step_element t) (runs_lexed v u qs r)
