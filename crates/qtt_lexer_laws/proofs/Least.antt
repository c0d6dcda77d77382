-- What belongs together is read as a piece at least as long, or as a fault that allows it.
use Rattle.std.proofs.Common.{◌≡◌, ℕ, suc, ◌+◌, ◌-◌, ◌≤◌, ◌^◌, ◌==◌, ◌&&◌, ◌⊎◌, inl, inr, not, nat_lt, nat_le, Bool, true, false, cond, pos, neg_ℤ, List, [], ◌∷◌, ◌++◌, length, take, drop, Option, Some, None, option_map, unwrap_or, refl, sym, ap, subst, ◌∙◌, append_assoc, length-append, arith}
use Rattle.std.proofs.lemmas.Bool.{eqb-true}
use Rattle.std.proofs.lemmas.Bool.Decides.{eqb_tells}
use Rattle.std.specs.List.{list_all, prefix_len}
use Rattle.std.specs.Char.{is_ascii_digit}
use Rattle.std.specs.Str.{encode_utf8_all}
use Rattle.qtt_base.specs.Parts.{has_long_part}
use Rattle.qtt_lexer.specs.Characters.{is_blank, begins, begins_part}
use Rattle.qtt_lexer.specs.Forms.{Spells, Nested, IsToken, IsGap, IsPart}
use Rattle.qtt_lexer.specs.Forms.Nested.{last, opened, closed, other}
use Rattle.qtt_lexer.specs.Forms.IsToken.{word as is_word, hole as is_hole, number as is_number, negative as is_negative, text as is_text, one as is_one, two as is_two}
use Rattle.qtt_lexer.specs.Forms.IsGap.{blank as is_blank_gap, line as is_line, comment as is_comment}
use Rattle.qtt_lexer.specs.Piece.{piece_at, by_front, front_of, is_dash, name_tail, name_at, word_of, reserved, hole_at, hole_of, names_hole, number_at, number_of, quoted, text_of, comment_tail, comment_of, symbol_at, symbol_of, of_one, sized, or_else, listed, pairs, singles, bad}
use Rattle.qtt_lexer.specs.declared.front.Front.{Front}
use Rattle.qtt_lexer.specs.declared.front.Front.TheVariants as front
use Rattle.qtt_lexer.specs.declared.quoted.Quotation.{Quotation}
use Rattle.qtt_lexer.specs.declared.quoted.Quotation.TheVariants.{Closed}
use Rattle.qtt_lexer.specs.declared.token.TokenKind.{TokenKind}
use Rattle.qtt_lexer.specs.declared.token.TokenKind.TheVariants as kind
use Rattle.qtt_lexer.specs.declared.piece.Cause.{Cause}
use Rattle.qtt_lexer.specs.declared.piece.Cause.TheVariants.{NotUtf8, BadCharacter, OpenText, OpenComment, NumberTooWide, NameTooLong}
use Rattle.qtt_lexer.specs.declared.piece.Piece.{Piece}
use Rattle.qtt_lexer.specs.declared.piece.Piece.TheVariants.{Gap, Token, Wrong}
use Rattle.qtt_lexer.proofs.Ascii.{front_of-name, front_of-number, begins_part-ascii}
use Rattle.qtt_lexer.proofs.Longest.{all_go_on-name_tail, spelled-quoted}
use Rattle.qtt_lexer_laws.specs.Cuts.{IsWord, BelongTogether}
use Rattle.qtt_lexer_laws.specs.Cuts.BelongTogether.{part, word, hole, digits, negative, opening}

-- a fault of so many characters that begins behind so many lets m characters belong together there
abbrev pub Allows : ℕ → Cause → ℕ → ℕ → Type 0
Allows m NotUtf8 before n = Unit {0}
Allows m (BadCharacter c) before n = c ≡ 63
Allows m OpenText before n = Unit {0}
Allows m OpenComment before n = Unit {0}
Allows m NumberTooWide before n = m ≤ n
Allows m NameTooLong before n = m ≤ before + n

-- the piece has so many characters, or it is a fault that allows them
abbrev pub AtLeast : ℕ → Piece → Type 0
AtLeast m (Gap n) = m ≤ n
AtLeast m (Token k n) = m ≤ n
AtLeast m (Wrong cause before n) = Allows m cause before n

least_if : (b : Bool) (m : ℕ) (p q : Piece) → AtLeast m p → AtLeast m q → AtLeast m (cond b p q)
least_if true m p q h k = h
least_if false m p q h k = k

from_front : (broken : Bool) (m c : ℕ) (cs : List ℕ) (f : Front) → front_of c cs ≡ f →
    AtLeast m (by_front broken c cs f) → AtLeast m (piece_at broken (c ∷ cs))
unfolding piece_at
from_front broken m c cs f e h = subst (λ (g : Front). AtLeast m (by_front broken c cs g)) (sym e) h

-- Names

word_least : (m n : ℕ) (ds : List ℕ) → m ≤ n → AtLeast m (word_of n ds)
word_least m n ds h = least_if (has_long_part ds) m (Wrong NameTooLong 0 n)
    (Token (unwrap_or (reserved ds) (kind.Name ds)) n) (omega (arith, h)) h

name_least : (broken : Bool) (c : ℕ) (cs ds : List ℕ) → IsWord c cs →
    AtLeast (suc (length cs)) (piece_at broken (c ∷ (cs ++ ds)))
unfolding name_at
name_least broken c cs ds h =
    from_front broken (suc (length cs)) c (cs ++ ds) front.Name (front_of-name c (cs ++ ds) h.begins)
    (word_least (suc (length cs)) (name_tail (cs ++ ds) + 1)
    (encode_utf8_all (take (name_tail (cs ++ ds) + 1) (c ∷ (cs ++ ds))))
    (omega (arith, all_go_on-name_tail cs ds h.goes_on)))

hole_least : (m n : ℕ) (ds : List ℕ) → m ≤ n + 1 → AtLeast m (hole_of n ds)
hole_least m n ds h =
    least_if (names_hole ds) m (cond (has_long_part ds) (Wrong NameTooLong 1 n) (Token (kind.Hole ds) (n + 1))) (bad 63)
    (least_if (has_long_part ds) m (Wrong NameTooLong 1 n) (Token (kind.Hole ds) (n + 1))
    (omega (arith, h)) h) refl

hole_at-least : (c : ℕ) (cs ds : List ℕ) → IsWord c cs → AtLeast (suc (suc (length cs))) (hole_at (c ∷ (cs ++ ds)))
unfolding hole_at
hole_at-least c cs ds h =
    let n = name_tail (cs ++ ds) + 1 in
    least_if (begins_part c) (suc (suc (length cs))) (hole_of n (encode_utf8_all (take n (c ∷ (cs ++ ds))))) (bad 63)
    (hole_least (suc (suc (length cs))) n (encode_utf8_all (take n (c ∷ (cs ++ ds))))
    (omega (arith, all_go_on-name_tail cs ds h.goes_on))) refl

-- Numbers

pub prefix_least : (p : ℕ → Bool) (cs ds : List ℕ) → list_all p cs ≡ true → length cs ≤ prefix_len p (cs ++ ds)
prefix_least p [] ds h = omega arith
prefix_least p (c ∷ cs) ds h = by_test (p c) (list_all p cs) (prefix_len p (cs ++ ds)) h (prefix_least p cs ds) where
  by_test : (a b : Bool) (n : ℕ) → (a && b) ≡ true → (b ≡ true → length cs ≤ n) → suc (length cs) ≤ cond a (1 + n) 0
  by_test true b n h rest = omega (arith, rest h)
  by_test false b n h rest = cc

pub first_passes : (p : ℕ → Bool) (c : ℕ) (cs : List ℕ) → list_all p (c ∷ cs) ≡ true → p c ≡ true
first_passes p c cs h = left_of (p c) (list_all p cs) h where
  left_of : (a b : Bool) → (a && b) ≡ true → a ≡ true
  left_of true b h = refl
  left_of false b h = cc

positive_least : (m n value : ℕ) → m ≤ n → AtLeast m (number_of false n value)
positive_least m n value h = least_if (nat_lt value (2 ^ 63)) m (Token (kind.Number (pos value)) n) _ h h

negative_least : (m n value : ℕ) → m ≤ n + 1 → AtLeast m (number_of true n value)
negative_least m n value h = least_if (nat_le value (2 ^ 63)) m (Token (kind.Number (neg_ℤ (pos value))) (n + 1)) _ h h

number_least : (broken : Bool) (c : ℕ) (cs ds : List ℕ) → list_all is_ascii_digit (c ∷ cs) ≡ true →
    AtLeast (suc (length cs)) (piece_at broken (c ∷ (cs ++ ds)))
unfolding number_at
number_least broken c cs ds h =
    from_front broken (suc (length cs)) c (cs ++ ds) front.Number
    (front_of-number c (cs ++ ds) (first_passes is_ascii_digit c cs h))
    (positive_least (suc (length cs)) (prefix_len is_ascii_digit (c ∷ (cs ++ ds))) _
    (prefix_least is_ascii_digit (c ∷ cs) ds h))

pub negative_front : (c : ℕ) (cs : List ℕ) → is_ascii_digit c ≡ true → front_of 45 (c ∷ cs) ≡ front.Negative
negative_front c cs h =
    rw (not_dash (eqb_tells c 45), begins_part-ascii 45 (omega arith), h) refl
  where
    not_dash : (((c == 45) ≡ true) × (c ≡ 45)) ⊎ (((c == 45) ≡ false) × (c ≡ 45 → ⊥)) → (c == 45) ≡ false
    not_dash (inl e) = absurd (let f = sym h ∙ ap is_ascii_digit e.1 in cc)
    not_dash (inr e) = e.0

negative_at-least : (broken : Bool) (c : ℕ) (cs ds : List ℕ) → list_all is_ascii_digit (c ∷ cs) ≡ true →
    AtLeast (suc (suc (length cs))) (piece_at broken (45 ∷ c ∷ (cs ++ ds)))
unfolding number_at
negative_at-least broken c cs ds h =
    from_front broken (suc (suc (length cs))) 45 (c ∷ (cs ++ ds)) front.Negative
    (negative_front c (cs ++ ds) (first_passes is_ascii_digit c cs h))
    (negative_least (suc (suc (length cs))) (prefix_len is_ascii_digit (c ∷ (cs ++ ds))) _
    (omega (arith, prefix_least is_ascii_digit (c ∷ cs) ds h)))

-- Texts

text_least : (broken : Bool) (body value ds : List ℕ) → Spells body value →
    AtLeast (length body + 2) (piece_at broken (34 ∷ ((body ++ 34 ∷ []) ++ ds)))
text_least broken body value ds m =
    let cs = (body ++ 34 ∷ []) ++ ds in
    let is : quoted cs ≡ Closed value (length body + 1) =
    ap quoted (append_assoc body (34 ∷ []) ds) ∙ spelled-quoted body value ds m in
    from_front broken (length body + 2) 34 cs front.Text refl
    (subst (λ (q : Quotation). AtLeast (length body + 2) (text_of broken q)) (sym is) (omega arith))

-- Comments

pub nested-tail : (d : ℕ) (cs ds : List ℕ) → Nested d cs → comment_tail d (cs ++ ds) ≡ Some (length cs)
unfolding comment_tail
nested-tail d cs ds last = refl
nested-tail d cs ds (opened f rest m) =
    ap (option_map (λ n. n + 2)) (nested-tail (suc f) rest ds m) ∙ ap Some (omega arith)
nested-tail d cs ds (closed f rest m) =
    let less : suc f - 1 ≡ f = omega arith in
    ap (λ (j : ℕ). option_map (λ n. n + 2) (comment_tail j (rest ++ ds))) less ∙ ap (option_map (λ n. n + 2))
    (nested-tail f rest ds m) ∙ ap Some (omega arith)
nested-tail d cs ds (other f c e rest h k m) =
    rw (h, k) (ap (option_map (λ n. n + 1)) (nested-tail f (e ∷ rest) ds m) ∙ ap Some (omega arith))

comment_least : (broken : Bool) (cs ds : List ℕ) → Nested 0 cs →
    AtLeast (suc (suc (length cs))) (piece_at broken (123 ∷ 45 ∷ (cs ++ ds)))
comment_least broken cs ds m =
    from_front broken (suc (suc (length cs))) 123 (45 ∷ (cs ++ ds)) front.Comment refl
    (subst (λ (o : Option ℕ). AtLeast (suc (suc (length cs)))
    (comment_of broken (length (45 ∷ (cs ++ ds)) + 1) o)) (sym (nested-tail 0 cs ds m)) (omega arith))

line_least : (broken : Bool) (cs ds : List ℕ) → list_all (λ c. not (c == 10)) cs ≡ true →
    AtLeast (suc (suc (length cs))) (piece_at broken (45 ∷ 45 ∷ (cs ++ ds)))
line_least broken cs ds h =
    from_front broken (suc (suc (length cs))) 45 (45 ∷ (cs ++ ds)) front.Line refl
    (omega (arith, prefix_least (λ c. not (c == 10)) cs ds h))

-- Symbols

choose : (P : Type 0) (a b c d : Bool) (p q r s k : TokenKind) →
    cond a (Some p) (cond b (Some q) (cond c (Some r) (cond d (Some s) None))) ≡ Some k → (a ≡ true → P) →
    (b ≡ true → P) → (c ≡ true → P) → (d ≡ true → P) → P
choose P true b c d p q r s k h f g i j = f refl
choose P false true c d p q r s k h f g i j = g refl
choose P false false true d p q r s k h f g i j = i refl
choose P false false false true p q r s k h f g i j = j refl
choose P false false false false p q r s k h f g i j = absurd (let e = h in cc)

two_of : (a b : Bool) → (a && (b && true)) ≡ true → (a ≡ true) × (b ≡ true)
two_of true true h = (refl, refl)
two_of true false h = cc
two_of false b h = cc

pair_at : (c e x y : ℕ) (ds : List ℕ) → ((c == x) && ((e == y) && true)) ≡ true →
    front_of x (y ∷ ds) ≡ front.Symbol → front_of c (e ∷ ds) ≡ front.Symbol
pair_at c e x y ds h k =
    let parts = two_of (c == x) (e == y) h in
    ap (λ (z : ℕ). front_of z (e ∷ ds)) (eqb-true c x parts.0) ∙ ap (λ (z : ℕ). front_of x (z ∷ ds))
    (eqb-true e y parts.1) ∙ k

-- two characters that are a symbol begin nothing else
pub pair_front : (c e : ℕ) (k : TokenKind) (ds : List ℕ) → listed pairs (c ∷ e ∷ []) ≡ Some k →
    front_of c (e ∷ ds) ≡ front.Symbol
pair_front c e k ds h =
    choose (front_of c (e ∷ ds) ≡ front.Symbol) _ _ _ _ kind.DotParen kind.Arrow kind.LeftArrow kind.FatArrow k h
    (λ i. pair_at c e 46 40 ds i (rw (begins_part-ascii 46 (omega arith)) refl))
    (λ i. pair_at c e 45 62 ds i (rw (begins_part-ascii 45 (omega arith)) refl))
    (λ i. pair_at c e 60 45 ds i (rw (begins_part-ascii 60 (omega arith)) refl))
    (λ i. pair_at c e 61 62 ds i (rw (begins_part-ascii 61 (omega arith)) refl))

pair_least : (broken : Bool) (c e : ℕ) (k : TokenKind) (ds : List ℕ) → listed pairs (c ∷ e ∷ []) ≡ Some k →
    AtLeast 2 (piece_at broken (c ∷ e ∷ ds))
unfolding symbol_at
pair_least broken c e k ds h =
    from_front broken 2 c (e ∷ ds) front.Symbol (pair_front c e k ds h)
    (subst (λ (o : Option TokenKind). AtLeast 2 (symbol_of c (or_else (sized 2 o) (of_one c)))) (sym h) (omega arith))

choose_single : (P : Type 0) (a b c d e f g h : Bool) (p q r s t u v w k : TokenKind) →
    cond a (Some p) (cond b (Some q) (cond c (Some r) (cond d (Some s)
    (cond e (Some t) (cond f (Some u) (cond g (Some v) (cond h (Some w) None))))))) ≡ Some k →
    (a ≡ true → P) → (b ≡ true → P) → (c ≡ true → P) → (d ≡ true → P) → (e ≡ true → P) → (f ≡ true → P) →
    (g ≡ true → P) → (h ≡ true → P) → P
choose_single P true b c d e f g h p q r s t u v w k is i j l m n o x y = i refl
choose_single P false true c d e f g h p q r s t u v w k is i j l m n o x y = j refl
choose_single P false false true d e f g h p q r s t u v w k is i j l m n o x y = l refl
choose_single P false false false true e f g h p q r s t u v w k is i j l m n o x y = m refl
choose_single P false false false false true f g h p q r s t u v w k is i j l m n o x y = n refl
choose_single P false false false false false true g h p q r s t u v w k is i j l m n o x y = o refl
choose_single P false false false false false false true h p q r s t u v w k is i j l m n o x y = x refl
choose_single P false false false false false false false true p q r s t u v w k is i j l m n o x y = y refl
choose_single P false false false false false false false false p q r s t u v w k is i j l m n o x y =
    absurd (let e = is in cc)

one_of : (a : Bool) → (a && true) ≡ true → a ≡ true
one_of true h = refl
one_of false h = cc

-- a symbol of one character, or the opening of a comment
abbrev pub IsSymbolFront : Front → Type 0
IsSymbolFront f = (f ≡ front.Symbol) ⊎ (f ≡ front.Comment)

single_at : (c x : ℕ) (ds : List ℕ) → ((c == x) && true) ≡ true → IsSymbolFront (front_of x ds) →
    IsSymbolFront (front_of c ds)
single_at c x ds h k =
    subst (λ (z : ℕ). IsSymbolFront (front_of z ds)) (sym (eqb-true c x (one_of (c == x) h))) k

brace_front : (b : Bool) → IsSymbolFront (cond b front.Comment front.Symbol)
brace_front true = inr refl
brace_front false = inl refl

pub single_front : (c : ℕ) (k : TokenKind) (ds : List ℕ) → listed singles (c ∷ []) ≡ Some k →
    IsSymbolFront (front_of c ds)
single_front c k ds h =
    choose_single (IsSymbolFront (front_of c ds)) _ _ _ _ _ _ _ _ kind.LeftParen kind.RightParen kind.Colon
    kind.Equals kind.Semicolon kind.Backslash kind.LeftBrace kind.RightBrace k h
    (λ i. single_at c 40 ds i (inl (rw (begins_part-ascii 40 (omega arith)) refl)))
    (λ i. single_at c 41 ds i (inl (rw (begins_part-ascii 41 (omega arith)) refl)))
    (λ i. single_at c 58 ds i (inl (rw (begins_part-ascii 58 (omega arith)) refl)))
    (λ i. single_at c 61 ds i (inl (rw (begins_part-ascii 61 (omega arith)) refl)))
    (λ i. single_at c 59 ds i (inl (rw (begins_part-ascii 59 (omega arith)) refl)))
    (λ i. single_at c 92 ds i (inl (rw (begins_part-ascii 92 (omega arith)) refl)))
    (λ i. single_at c 123 ds i (rw (begins_part-ascii 123 (omega arith)) (brace_front (begins is_dash ds))))
    (λ i. single_at c 125 ds i (inl (rw (begins_part-ascii 125 (omega arith)) refl)))

two_least : (c : ℕ) (o : Option TokenKind) (p : Option (TokenKind × ℕ)) → AtLeast 1 (symbol_of c p) →
    AtLeast 1 (symbol_of c (or_else (sized 2 o) p))
two_least c None p h = h
two_least c (Some k) p h = omega arith

symbol_least : (c : ℕ) (k : TokenKind) (ds : List ℕ) → listed singles (c ∷ []) ≡ Some k →
    AtLeast 1 (symbol_of c (symbol_at (c ∷ ds)))
unfolding symbol_at
symbol_least c k ds h =
    let one : AtLeast 1 (symbol_of c (of_one c)) =
    subst (λ (o : Option TokenKind). AtLeast 1 (symbol_of c (sized 1 o))) (sym h) (omega arith) in
    by ds one
  where
    by : (es : List ℕ) → AtLeast 1 (symbol_of c (of_one c)) → AtLeast 1 (symbol_of c (symbol_at (c ∷ es)))
    by [] one = one
    by (e ∷ es) one = two_least c (listed pairs (c ∷ e ∷ [])) (of_one c) one

-- what opens a comment
comment_of-least : (broken : Bool) (m all : ℕ) (o : Option ℕ) → m ≤ 2 → AtLeast m (comment_of broken all o)
comment_of-least broken m all (Some n) h = omega (arith, h)
comment_of-least true m all None h = tt
comment_of-least false m all None h = tt

single_by : (broken : Bool) (c : ℕ) (ds : List ℕ) → IsSymbolFront (front_of c ds) →
    AtLeast 1 (symbol_of c (symbol_at (c ∷ ds))) → AtLeast 1 (piece_at broken (c ∷ ds))
single_by broken c ds (inl e) h = from_front broken 1 c ds front.Symbol e h
single_by broken c ds (inr e) h =
    from_front broken 1 c ds front.Comment e
    (comment_of-least broken 1 (length ds + 1) (comment_tail 0 (drop 1 ds)) (omega arith))

single : (broken : Bool) (c : ℕ) (k : TokenKind) (ds : List ℕ) → listed singles (c ∷ []) ≡ Some k →
    AtLeast 1 (piece_at broken (c ∷ ds))
single broken c k ds h = single_by broken c ds (single_front c k ds h) (symbol_least c k ds h)

pub front_of-blank : (c : ℕ) (ds : List ℕ) → is_blank c ≡ true → front_of c ds ≡ front.Blank
front_of-blank c ds h = rw h refl

blank_least : (broken : Bool) (c : ℕ) (ds : List ℕ) → is_blank c ≡ true → AtLeast 1 (piece_at broken (c ∷ ds))
blank_least broken c ds h = from_front broken 1 c ds front.Blank (front_of-blank c ds h) (omega arith)

-- All together

token_least : (broken : Bool) (k : TokenKind) (cs ds : List ℕ) → IsToken k cs →
    AtLeast (length cs) (piece_at broken (cs ++ ds))
token_least broken k cs ds (is_word c rest j h e) =
    name_least broken c rest ds (record { begins = h.begins; goes_on = h.goes_on })
token_least broken k cs ds (is_hole c rest w h e i) =
    from_front broken (suc (suc (length rest))) 63 (c ∷ (rest ++ ds)) front.Hole refl
    (hole_at-least c rest ds (record { begins = h.begins; goes_on = h.goes_on }))
token_least broken k cs ds (is_number c n rest h e i) = number_least broken c rest ds h
token_least broken k cs ds (is_negative c n rest h e i) = negative_at-least broken c rest ds h
token_least broken k cs ds (is_text body value all m e) =
    let same : 34 ∷ ((body ++ 34 ∷ []) ++ ds) ≡ all ++ ds = ap (λ (es : List ℕ). es ++ ds) (sym e) in
    let long : length all ≡ length body + 2 = omega (arith, ap length e, length-append body (34 ∷ [])) in
    subst (λ (es : List ℕ). AtLeast (length all) (piece_at broken es)) same
    (subst (λ (m' : ℕ). AtLeast m' (piece_at broken (34 ∷ ((body ++ 34 ∷ []) ++ ds)))) (sym long)
    (text_least broken body value ds m))
token_least broken k cs ds (is_one c j h) = single broken c j ds h
token_least broken k cs ds (is_two c e j h) = pair_least broken c e j ds h

gap_least : (broken : Bool) (cs ds : List ℕ) → IsGap cs → AtLeast (length cs) (piece_at broken (cs ++ ds))
gap_least broken cs ds (is_blank_gap c h) = blank_least broken c ds h
gap_least broken cs ds (is_line rest h) = line_least broken rest ds h
gap_least broken cs ds (is_comment rest m) = comment_least broken rest ds m

part_least : (broken : Bool) (o : Option TokenKind) (cs ds : List ℕ) → IsPart o cs →
    AtLeast (length cs) (piece_at broken (cs ++ ds))
part_least broken None cs ds h = gap_least broken cs ds h
part_least broken (Some k) cs ds h = token_least broken k cs ds h

-- what belongs together is read as a piece at least as long, whatever follows
pub together_least : (broken : Bool) (cs ds : List ℕ) → BelongTogether cs →
    AtLeast (length cs) (piece_at broken (cs ++ ds))
together_least broken cs ds (part o all h) = part_least broken o all ds h
together_least broken cs ds (word c rest h) = name_least broken c rest ds h
together_least broken cs ds (hole c rest h) =
    from_front broken (suc (suc (length rest))) 63 (c ∷ (rest ++ ds)) front.Hole refl (hole_at-least c rest ds h)
together_least broken cs ds (digits c rest h) = number_least broken c rest ds h
together_least broken cs ds (negative c rest h) = negative_at-least broken c rest ds h
together_least broken cs ds opening =
    from_front broken 2 123 (45 ∷ ds) front.Comment refl
    (comment_of-least broken 2 (length (45 ∷ ds) + 1) (comment_tail 0 ds) (omega arith))
