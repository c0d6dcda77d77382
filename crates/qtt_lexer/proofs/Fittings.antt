-- Pieces lie within the characters at whose front they stand.
use Rattle.std.proofs.Common.{◌≡◌, ℕ, zero, suc, ◌+◌, ◌-◌, ◌<◌, ◌≤◌, ◌^◌, ◌==◌, ◌&&◌, not, nat_lt, nat_le, Bool, true, false, cond, List, [], ◌∷◌, length, take, drop, Option, Some, None, option_map, IfSome, refl, arith}
use Rattle.std.specs.List.{prefix_len}
use Rattle.std.specs.Char.{is_ascii_digit}
use Rattle.std.specs.Str.{encode_utf8_all}
use Rattle.std.proofs.lemmas.List.{length-drop}
use Rattle.std.proofs.lemmas.List.Sums.{prefix_len-le-length}
use Rattle.qtt_base.specs.Parts.{has_long_part}
use Rattle.qtt_lexer.specs.Characters.{is_blank, begins, begins_part}
use Rattle.qtt_lexer.specs.Fitting.{Fits}
use Rattle.qtt_lexer.specs.Quoted.{IsWithin}
use Rattle.qtt_lexer.specs.Piece.{piece_at, by_front, front_of, is_dash, name_at, name_length, hole_at, hole_of, names_hole, number_at, number_of, quoted, preceded, by_escape, escape, text_of, comment_tail, closing, opens, closes, comment_of, symbol_at, symbol_of, of_one, sized, or_else, listed, pairs, singles}
use Rattle.qtt_lexer.specs.declared.front.Front.{Front}
use Rattle.qtt_lexer.specs.declared.front.Front.TheVariants as front
use Rattle.qtt_lexer.specs.declared.quoted.Quotation.{Quotation}
use Rattle.qtt_lexer.specs.declared.quoted.Quotation.TheVariants.{Closed, LineEnds, TextEnds, BadEscape}
use Rattle.qtt_lexer.specs.declared.token.TokenKind.{TokenKind}
use Rattle.qtt_lexer.specs.declared.piece.Piece.{Piece}
use Rattle.qtt_lexer.proofs.Words.{name_tail-le-length}

-- Texts

within_if : (b : Bool) (most : ℕ) (q r : Quotation) → IsWithin most q → IsWithin most r → IsWithin most (cond b q r)
within_if true most q r h k = h
within_if false most q r h k = k

preceded-within : (most c n m : ℕ) (q : Quotation) → most ≡ n + m → IsWithin m q → IsWithin most (preceded c n q)
preceded-within most c n m (Closed value k) e h = omega (arith, e, h)
preceded-within most c n m LineEnds e h = tt
preceded-within most c n m (TextEnds k) e h = omega (arith, e, h)
preceded-within most c n m (BadEscape k) e h = omega (arith, e, h)

by_escape-within : (o : Option ℕ) (most m : ℕ) (q : Quotation) → most ≡ 2 + m → IsWithin m q →
    IsWithin most (by_escape o q)
by_escape-within None most m q e h = omega (arith, e)
by_escape-within (Some c) most m q e h = preceded-within most c 2 m q e h

pub quoted-within : (cs : List ℕ) → IsWithin (length cs) (quoted cs)
unfolding quoted
quoted-within [] = omega arith
quoted-within (c ∷ []) =
    within_if (c == 34) 1 (Closed [] 1) (cond (c == 10) LineEnds (TextEnds 1)) (omega arith)
    (within_if (c == 10) 1 LineEnds (TextEnds 1) tt (omega arith))
quoted-within (c ∷ e ∷ cs) =
    let all = length (c ∷ e ∷ cs) in
    let rest = quoted cs in
    let escaped = cond (e == 10) LineEnds (by_escape (escape e) rest) in
    let plain = preceded c 1 (quoted (e ∷ cs)) in
    within_if (c == 34) all (Closed [] 1) _ (omega arith)
    (within_if (c == 10) all LineEnds _ tt
    (within_if (c == 92) all escaped plain
    (within_if (e == 10) all LineEnds (by_escape (escape e) rest) tt
    (by_escape-within (escape e) all (length cs) rest (omega arith) (quoted-within cs)))
    (preceded-within all c 1 (length (e ∷ cs)) (quoted (e ∷ cs)) (omega arith) (quoted-within (e ∷ cs)))))

text_of-fits : (broken : Bool) (all m : ℕ) (q : Quotation) → all ≡ m + 1 → IsWithin m q → Fits all (text_of broken q)
text_of-fits broken all m (Closed value n) e h = (omega arith, omega (arith, e, h))
text_of-fits broken all m LineEnds e h = (omega arith, omega (arith, e))
text_of-fits true all m (TextEnds n) e h = (omega (arith, e, h), omega arith)
text_of-fits false all m (TextEnds n) e h = (omega arith, omega (arith, e))
text_of-fits broken all m (BadEscape n) e h = (omega (arith, e, h), omega (arith, e))

-- Comments

abbrev IsTail : ℕ → Option ℕ → Type 0
IsTail most o = IfSome o (λ n. (0 < n) × (n ≤ most))

tail_if : (b : Bool) (most : ℕ) (o p : Option ℕ) → IsTail most o → IsTail most p → IsTail most (cond b o p)
tail_if true most o p h k = h
tail_if false most o p h k = k

tail_more : (most m k : ℕ) (o : Option ℕ) → most ≡ m + k → IsTail m o → IsTail most (option_map (λ n. n + k) o)
tail_more most m k None e h = tt
tail_more most m k (Some n) e h = (omega (arith, h.0), omega (arith, e, h.1))

tail_closing : (d most m : ℕ) (o : Option ℕ) → most ≡ m + 2 → IsTail m o → IsTail most (closing d o)
tail_closing zero most m o e h = (omega arith, omega (arith, e))
tail_closing (suc d) most m o e h = tail_more most m 2 o e h

pub comment_tail-within : (d : ℕ) (cs : List ℕ) → IsTail (length cs) (comment_tail d cs)
unfolding comment_tail
comment_tail-within d [] = tt
comment_tail-within d (c ∷ []) = tt
comment_tail-within d (c ∷ e ∷ cs) =
    let all = length (c ∷ e ∷ cs) in
    tail_if (opens c e) all _ _
    (tail_more all (length cs) 2 (comment_tail (suc d) cs) (omega arith) (comment_tail-within (suc d) cs))
    (tail_if (closes c e) all _ _
    (tail_closing d all (length cs) (comment_tail (d - 1) cs) (omega arith) (comment_tail-within (d - 1) cs))
    (tail_more all (length (e ∷ cs)) 1 (comment_tail d (e ∷ cs)) (omega arith) (comment_tail-within d (e ∷ cs))))

comment_of-fits : (broken : Bool) (cs : List ℕ) (o : Option ℕ) → IsTail (length (drop 1 cs)) o →
    Fits (suc (length cs)) (comment_of broken (length cs + 1) o)
comment_of-fits broken cs (Some n) h = (omega arith, omega (arith, h.0, h.1, length-drop 1 cs))
comment_of-fits true cs None h = (omega arith, omega arith)
comment_of-fits false cs None h = (omega arith, omega arith)

-- The rest

piece_if : (b : Bool) (all : ℕ) (p q : Piece) → Fits all p → Fits all q → Fits all (cond b p q)
piece_if true all p q h k = h
piece_if false all p q h k = k

name_at-fits : (c : ℕ) (cs : List ℕ) → Fits (suc (length cs)) (name_at (c ∷ cs))
unfolding name_at
name_at-fits c cs =
    piece_if (has_long_part (encode_utf8_all (take (name_length (c ∷ cs)) (c ∷ cs)))) (suc (length cs)) _ _
    (omega arith, omega (arith, name_tail-le-length cs)) (omega arith, omega (arith, name_tail-le-length cs))

name_length-le-length : (cs : List ℕ) → name_length cs ≤ length cs
name_length-le-length [] = omega arith
name_length-le-length (c ∷ cs) = omega (arith, name_tail-le-length cs)

hole_of-fits : (all n : ℕ) (word : List ℕ) → n + 1 ≤ all → Fits all (hole_of n word)
hole_of-fits all n word h =
    piece_if (names_hole word) all _ _
    (piece_if (has_long_part word) all _ _ (omega (arith, h), omega (arith, h)) (omega arith, omega (arith, h)))
    (omega arith, omega arith)

hole_at-fits : (cs : List ℕ) → Fits (suc (length cs)) (hole_at cs)
unfolding hole_at
hole_at-fits cs =
    piece_if (begins begins_part cs) (suc (length cs)) _ _
    (hole_of-fits (suc (length cs)) (name_length cs) (encode_utf8_all (take (name_length cs) cs))
    (omega (arith, name_length-le-length cs))) (omega arith, omega arith)

positive_of-fits : (all n value : ℕ) → 0 < n → n ≤ all → Fits all (number_of false n value)
positive_of-fits all n value lt le =
    piece_if (nat_lt value (2 ^ 63)) all _ _ (lt, le) (omega arith, omega (arith, le))

negative_of-fits : (all n value : ℕ) → n + 1 ≤ all → Fits all (number_of true n value)
negative_of-fits all n value le =
    piece_if (nat_le value (2 ^ 63)) all _ _ (omega arith, le) (omega arith, omega (arith, le))

some_digit : (c : ℕ) (cs : List ℕ) → is_ascii_digit c ≡ true → 0 < prefix_len is_ascii_digit (c ∷ cs)
some_digit c cs h = rw h (omega arith)

number_at-fits : (c : ℕ) (cs : List ℕ) → is_ascii_digit c ≡ true → Fits (suc (length cs)) (number_at false (c ∷ cs))
unfolding number_at
number_at-fits c cs h =
    positive_of-fits (suc (length cs)) (prefix_len is_ascii_digit (c ∷ cs)) _ (some_digit c cs h)
    (omega (arith, prefix_len-le-length is_ascii_digit (c ∷ cs)))

symbol_of-fits : (all c : ℕ) (o : Option (TokenKind × ℕ)) → 1 ≤ all → IfSome o (λ s. (0 < s.1) × (s.1 ≤ all)) →
    Fits all (symbol_of c o)
symbol_of-fits all c None h k = (omega arith, omega (arith, h))
symbol_of-fits all c (Some s) h k = k

abbrev IsSymbol : ℕ → Option (TokenKind × ℕ) → Type 0
IsSymbol all o = IfSome o (λ s. (0 < s.1) × (s.1 ≤ all))

sized-fits : (all n : ℕ) (o : Option TokenKind) → 0 < n → n ≤ all → IsSymbol all (sized n o)
sized-fits all n None lt le = tt
sized-fits all n (Some kind) lt le = (lt, le)

or_else-fits : (all : ℕ) (o p : Option (TokenKind × ℕ)) → IsSymbol all o → IsSymbol all p → IsSymbol all (or_else o p)
or_else-fits all None p h k = k
or_else-fits all (Some s) p h k = h

symbol_at-fits : (c : ℕ) (cs : List ℕ) → IsSymbol (suc (length cs)) (symbol_at (c ∷ cs))
unfolding symbol_at
symbol_at-fits c [] = sized-fits 1 1 (listed singles (c ∷ [])) (omega arith) (omega arith)
symbol_at-fits c (e ∷ cs) =
    let all = suc (length (e ∷ cs)) in
    or_else-fits all (sized 2 (listed pairs (c ∷ e ∷ []))) (of_one c)
    (sized-fits all 2 (listed pairs (c ∷ e ∷ [])) (omega arith) (omega arith))
    (sized-fits all 1 (listed singles (c ∷ [])) (omega arith) (omega arith))

-- what begins as a number begins with a digit
number_begins : (a b c d e f g h : Bool) →
    front.Number ≡ cond a front.Blank
    (cond b front.Line (cond c front.Comment
    (cond d front.Text (cond e front.Hole
    (cond f front.Name (cond g front.Number (cond h front.Negative front.Symbol))))))) → g ≡ true
number_begins true b c d e f g h is = cc
number_begins false true c d e f g h is = cc
number_begins false false true d e f g h is = cc
number_begins false false false true e f g h is = cc
number_begins false false false false true f g h is = cc
number_begins false false false false false true g h is = cc
number_begins false false false false false false true h is = refl
number_begins false false false false false false false true is = cc
number_begins false false false false false false false false is = cc

front_digit : (c : ℕ) (cs : List ℕ) → front.Number ≡ front_of c cs → is_ascii_digit c ≡ true
front_digit c cs h =
    number_begins (is_blank c) (is_dash c && begins is_dash cs) ((c == 123) && begins is_dash cs) (c == 34)
    (c == 63) (begins_part c) (is_ascii_digit c) (is_dash c && begins is_ascii_digit cs) h

negative-fits : (cs : List ℕ) → Fits (suc (length cs)) (number_at true cs)
unfolding number_at
negative-fits cs =
    negative_of-fits (suc (length cs)) (prefix_len is_ascii_digit cs) _
    (omega (arith, prefix_len-le-length is_ascii_digit cs))

front-fits : (broken : Bool) (c : ℕ) (cs : List ℕ) (f : Front) → f ≡ front_of c cs →
    Fits (suc (length cs)) (by_front broken c cs f)
front-fits broken c cs front.Blank h = (omega arith, omega arith)
front-fits broken c cs front.Line h = (omega arith, omega (arith, prefix_len-le-length (λ d. not (d == 10)) cs))
front-fits broken c cs front.Comment h =
    comment_of-fits broken cs (comment_tail 0 (drop 1 cs)) (comment_tail-within 0 (drop 1 cs))
front-fits broken c cs front.Text h =
    text_of-fits broken (suc (length cs)) (length cs) (quoted cs) (omega arith) (quoted-within cs)
front-fits broken c cs front.Hole h = hole_at-fits cs
front-fits broken c cs front.Name h = name_at-fits c cs
front-fits broken c cs front.Number h = number_at-fits c cs (front_digit c cs h)
front-fits broken c cs front.Negative h = negative-fits cs
front-fits broken c cs front.Symbol h =
    symbol_of-fits (suc (length cs)) c (symbol_at (c ∷ cs)) (omega arith) (symbol_at-fits c cs)

pub piece_at-fits : (broken : Bool) (cs : List ℕ) → 0 < length cs → Fits (length cs) (piece_at broken cs)
unfolding piece_at
piece_at-fits broken [] h = absurd (omega (arith, h))
piece_at-fits broken (c ∷ cs) h = front-fits broken c cs (front_of c cs) refl
