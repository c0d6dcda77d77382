-- What stands at the front of characters: a blank, a comment, a token or a fault.
use Rattle.std.specs.Prelude.{ℕ, zero, suc, ◌+◌, ◌-◌, ◌*◌, ◌^◌, ◌==◌, ◌&&◌, not, nat_lt, nat_le, nat_eq, if◌then◌else◌, Bool, true, false, pos, neg_ℤ, List, [], ◌∷◌, ◌++◌, length, take, drop, fold, codes, Option, Some, None, is_some, unwrap_or, option_map, encode_utf8}
use Rattle.std.specs.List.{prefix_len, take_while}
use Rattle.std.specs.Str.{encode_utf8_all}
use Rattle.std.specs.Char.{is_ascii_digit}
use Rattle.std.specs.Cmp.Lexicographic.{pointwise}
use Rattle.qtt_base.specs.Parts.{has_long_part}
use Rattle.qtt_lexer.specs.Names.{is_simple}
use Rattle.qtt_lexer.specs.Characters.{is_blank, begins_part, begins, goes_on}
use Rattle.qtt_lexer.specs.declared.token.TokenKind.{TokenKind}
use Rattle.qtt_lexer.specs.declared.token.TokenKind.TheVariants as kind
use Rattle.qtt_lexer.specs.declared.piece.Cause.TheVariants.{NotUtf8, BadCharacter, OpenText, OpenComment, NumberTooWide, NameTooLong}
use Rattle.qtt_lexer.specs.declared.front.Front.{Front}
use Rattle.qtt_lexer.specs.declared.front.Front.TheVariants as front
use Rattle.qtt_lexer.specs.declared.quoted.Quotation.{Quotation}
use Rattle.qtt_lexer.specs.declared.quoted.Quotation.TheVariants.{Closed, LineEnds, TextEnds, BadEscape}
use Rattle.qtt_lexer.specs.declared.piece.Piece.{Piece}
use Rattle.qtt_lexer.specs.declared.piece.Piece.TheVariants.{Gap, Token, Wrong}

-- Names

-- how many characters go on with the name before them
unfoldable pub name_tail : List ℕ → ℕ
name_tail [] = 0
name_tail (c ∷ cs) = if goes_on c cs then name_tail cs + 1 else 0

-- how many characters the name has that begins here
abbrev pub name_length : List ℕ → ℕ
name_length [] = 0
name_length (c ∷ cs) = name_tail cs + 1

-- the keywords and the wildcard, which are no names
abbrev pub reserved_words : List (List ℕ × TokenKind)
reserved_words =
    (codes "module", kind.Module) ∷ (codes "import", kind.Import) ∷ (codes "data", kind.Data)
    ∷ (codes "where", kind.Where) ∷ (codes "do", kind.Do) ∷ (codes "let", kind.Let)
    ∷ (codes "in", kind.In) ∷ (codes "partial", kind.Partial) ∷ (codes "the", kind.The)
    ∷ (codes "Type", kind.Type) ∷ (codes "_", kind.Wildcard) ∷ []

-- what a list of pairs has at a word
abbrev pub listed : List (List ℕ × TokenKind) → List ℕ → Option TokenKind
listed [] word = None
listed (pair ∷ pairs) word = if pointwise nat_eq word pair.0 then Some pair.1 else listed pairs word

unfoldable pub reserved : List ℕ → Option TokenKind
reserved word = listed reserved_words word

-- a whole name, a keyword or the wildcard, of so many characters
abbrev pub word_of : ℕ → List ℕ → Piece
word_of n word = if has_long_part word then Wrong NameTooLong 0 n else Token
    (unwrap_or (reserved word) (kind.Name word)) n

unfoldable pub name_at : List ℕ → Piece
name_at cs = word_of (name_length cs) (encode_utf8_all (take (name_length cs) cs))

-- Holes

abbrev pub bad : ℕ → Piece
bad c = Wrong (BadCharacter c) 0 1

-- a hole's name has one part and is no keyword and no wildcard
abbrev pub names_hole : List ℕ → Bool
names_hole word = is_simple word && not (is_some (reserved word))

-- a `?` with this word of so many characters behind it
abbrev pub hole_of : ℕ → List ℕ → Piece
hole_of n word =
    if names_hole word then (if has_long_part word then Wrong NameTooLong 1 n else Token (kind.Hole word) (n + 1))
    else bad 63

-- what begins with a `?` before these characters
unfoldable pub hole_at : List ℕ → Piece
hole_at cs =
    if begins begins_part cs then hole_of (name_length cs) (encode_utf8_all (take (name_length cs) cs)) else bad 63

-- Numbers

-- the number that decimal digits spell
abbrev pub decimal : List ℕ → ℕ
decimal digits = fold (λ n c. n * 10 + (c - 48)) 0 digits

-- a number of so many characters, with or without a `-`
abbrev pub number_of : Bool → ℕ → ℕ → Piece
number_of false n value = if nat_lt value (2 ^ 63) then Token (kind.Number (pos value)) n else Wrong NumberTooWide 0 n
number_of true n value = if nat_le value (2 ^ 63) then Token (kind.Number (neg_ℤ (pos value)))
    (n + 1) else Wrong NumberTooWide 0 (n + 1)

-- what begins with these digits, or with a `-` before them
unfoldable pub number_at : Bool → List ℕ → Piece
number_at negative cs =
    number_of negative (prefix_len is_ascii_digit cs) (decimal (take_while is_ascii_digit cs))

-- Texts

-- the character that an escape stands for
abbrev pub escape : ℕ → Option ℕ
escape c = if c == 110 then Some 10
    else (if c == 116 then Some 9 else (if c == 92 then Some 92 else (if c == 34 then Some 34 else None)))

-- the same text behind so many characters that stand for one
abbrev pub preceded : ℕ → ℕ → Quotation → Quotation
preceded c n (Closed value m) = Closed (encode_utf8 c ++ value) (n + m)
preceded c n LineEnds = LineEnds
preceded c n (TextEnds m) = TextEnds (n + m)
preceded c n (BadEscape m) = BadEscape (n + m)

abbrev pub by_escape : Option ℕ → Quotation → Quotation
by_escape None rest = BadEscape 0
by_escape (Some c) rest = preceded c 2 rest

-- what stands behind an opening quote
unfoldable pub quoted : List ℕ → Quotation
quoted [] = TextEnds 0
quoted (c ∷ []) = if c == 34 then Closed [] 1 else (if c == 10 then LineEnds else TextEnds 1)
quoted (c ∷ e ∷ cs) =
    if c == 34 then Closed [] 1
    else (if c == 10 then LineEnds
    else (if c == 92 then (if e == 10 then LineEnds else by_escape (escape e) (quoted cs))
    else preceded c 1 (quoted (e ∷ cs))))

-- what begins with a quote: an open text is wrong at its quote, unless bytes follow that are no character
abbrev pub text_of : Bool → Quotation → Piece
text_of broken (Closed value n) = Token (kind.Text value) (n + 1)
text_of broken LineEnds = Wrong OpenText 0 1
text_of broken (TextEnds n) = if broken then Wrong NotUtf8 (n + 1) 0 else Wrong OpenText 0 1
text_of broken (BadEscape n) = Wrong (BadCharacter 92) (n + 1) 1

-- Comments

-- `{-` and `-}`
abbrev pub opens : ℕ → ℕ → Bool
opens c e = (c == 123) && (e == 45)

abbrev pub closes : ℕ → ℕ → Bool
closes c e = (c == 45) && (e == 125)

abbrev pub closing : ℕ → Option ℕ → Option ℕ
closing zero rest = Some 2
closing (suc depth) rest = option_map (λ n. n + 2) rest

-- how many characters a comment goes on in which so many others are open, up to and with its `-}`
unfoldable pub comment_tail : ℕ → List ℕ → Option ℕ
comment_tail depth [] = None
comment_tail depth (c ∷ []) = None
comment_tail depth (c ∷ e ∷ cs) =
    if opens c e then option_map (λ n. n + 2) (comment_tail (suc depth) cs)
    else (if closes c e then closing depth (comment_tail (depth - 1) cs)
    else option_map (λ n. n + 1) (comment_tail depth (e ∷ cs)))

-- what begins with a `{-`, where so many characters are left in all
abbrev pub comment_of : Bool → ℕ → Option ℕ → Piece
comment_of broken all (Some n) = Gap (n + 2)
comment_of broken all None = if broken then Wrong NotUtf8 all 0 else Wrong OpenComment 0 2

-- a `-` and these characters to the end of their line
abbrev pub line_of : List ℕ → Piece
line_of cs = Gap (prefix_len (λ c. not (c == 10)) cs + 1)

-- Symbols

-- the symbols of two characters, and those of one
abbrev pub pairs : List (List ℕ × TokenKind)
pairs =
    (codes ".(", kind.DotParen) ∷ (codes "->", kind.Arrow) ∷ (codes "<-", kind.LeftArrow)
    ∷ (codes "=>", kind.FatArrow) ∷ []

abbrev pub singles : List (List ℕ × TokenKind)
singles =
    (codes "(", kind.LeftParen) ∷ (codes ")", kind.RightParen) ∷ (codes ":", kind.Colon)
    ∷ (codes "=", kind.Equals) ∷ (codes ";", kind.Semicolon) ∷ (codes "\\", kind.Backslash)
    ∷ (codes "{", kind.LeftBrace) ∷ (codes "}", kind.RightBrace) ∷ []

-- a symbol and its number of characters
abbrev pub sized : ℕ → Option TokenKind → Option (TokenKind × ℕ)
sized n None = None
sized n (Some kind) = Some (kind, n)

abbrev pub or_else : Option (TokenKind × ℕ) → Option (TokenKind × ℕ) → Option (TokenKind × ℕ)
or_else None other = other
or_else (Some symbol) other = Some symbol

abbrev pub of_one : ℕ → Option (TokenKind × ℕ)
of_one c = sized 1 (listed singles (c ∷ []))

abbrev pub of_two : ℕ → ℕ → Option (TokenKind × ℕ)
of_two c e = or_else (sized 2 (listed pairs (c ∷ e ∷ []))) (of_one c)

-- the longest symbol that begins here
unfoldable pub symbol_at : List ℕ → Option (TokenKind × ℕ)
symbol_at [] = None
symbol_at (c ∷ []) = of_one c
symbol_at (c ∷ e ∷ cs) = of_two c e

-- any other character is bad
abbrev pub symbol_of : ℕ → Option (TokenKind × ℕ) → Piece
symbol_of c None = bad c
symbol_of c (Some symbol) = Token symbol.0 symbol.1

-- All together

abbrev pub is_dash : ℕ → Bool
is_dash c = c == 45

-- what a character begins before these characters
abbrev pub front_of : ℕ → List ℕ → Front
front_of c cs =
    if is_blank c then front.Blank
    else (if is_dash c && begins is_dash cs then front.Line
    else (if (c == 123) && begins is_dash cs then front.Comment
    else (if c == 34 then front.Text
    else (if c == 63 then front.Hole
    else (if begins_part c then front.Name
    else (if is_ascii_digit c then front.Number
    else (if is_dash c && begins is_ascii_digit cs then front.Negative
    else front.Symbol)))))))

abbrev pub by_front : Bool → ℕ → List ℕ → Front → Piece
by_front broken c cs front.Blank = Gap 1
by_front broken c cs front.Line = line_of cs
by_front broken c cs front.Comment = comment_of broken (length cs + 1) (comment_tail 0 (drop 1 cs))
by_front broken c cs front.Text = text_of broken (quoted cs)
by_front broken c cs front.Hole = hole_at cs
by_front broken c cs front.Name = name_at (c ∷ cs)
by_front broken c cs front.Number = number_at false (c ∷ cs)
by_front broken c cs front.Negative = number_at true cs
by_front broken c cs front.Symbol = symbol_of c (symbol_at (c ∷ cs))

-- what stands at the front of characters; broken says that bytes follow them that are no character
unfoldable pub piece_at : Bool → List ℕ → Piece
piece_at broken [] = Gap 0
piece_at broken (c ∷ cs) = by_front broken c cs (front_of c cs)
