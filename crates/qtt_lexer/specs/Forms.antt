-- What may stand in a text: the forms of its tokens, blanks and comments.
use Rattle.std.specs.Prelude.{◌≡◌, ◌≢◌, ℕ, suc, ◌<◌, ◌≤◌, ◌^◌, ◌==◌, ◌⊎◌, not, if◌then◌else◌, Bool, true, false, pos, neg_ℤ, List, [], ◌∷◌, ◌++◌, length, Option, Some, None, unwrap_or, encode_utf8}
use Rattle.std.specs.List.{list_all}
use Rattle.std.specs.Str.{encode_utf8_all}
use Rattle.std.specs.Char.{is_ascii_digit}
use Rattle.qtt_base.specs.Parts.{has_long_part}
use Rattle.qtt_lexer.specs.Characters.{is_blank, begins_part, goes_on}
use Rattle.qtt_lexer.specs.Piece.{reserved, names_hole, decimal, escape, opens, closes, pairs, singles, listed}
use Rattle.qtt_base.specs.declared.place.Span.{Span}
use Rattle.qtt_lexer.specs.Place.{start, place_after}
use Rattle.qtt_lexer.specs.Lexed.{token}
use Rattle.qtt_lexer.specs.declared.errors.LexError.{LexError}
use Rattle.qtt_lexer.specs.declared.errors.LexError.TheVariants as errors
use Rattle.qtt_lexer.specs.declared.place.Place.{Place}
use Rattle.qtt_lexer.specs.declared.token.Token.{Token}
use Rattle.qtt_lexer.specs.declared.token.TokenKind.{TokenKind}
use Rattle.qtt_lexer.specs.declared.token.TokenKind.TheVariants as kind

-- each character goes on with the name before it
abbrev pub all_go_on : List ℕ → Bool
all_go_on [] = true
all_go_on (c ∷ cs) = if goes_on c cs then all_go_on cs else false

-- a part begins, and each further character goes on
pub record IsName (c : ℕ) (cs : List ℕ) : Type 0 where
  pub begins : begins_part c ≡ true
  pub goes_on : all_go_on cs ≡ true
  pub short : has_long_part (encode_utf8_all (c ∷ cs)) ≡ false

-- the characters of a text between its quotes, and the value that they spell
pub data Spells : List ℕ → List ℕ → Type 0 where
  nothing : Spells [] []
  plain : (c : ℕ) (body rest value : List ℕ) → c ≢ 34 → c ≢ 10 → c ≢ 92 → Spells body rest →
      value ≡ encode_utf8 c ++ rest → Spells (c ∷ body) value
  escaped : (e c : ℕ) (body rest value : List ℕ) → e ≢ 10 → escape e ≡ Some c → Spells body rest →
      value ≡ encode_utf8 c ++ rest → Spells (92 ∷ e ∷ body) value

-- the characters of a comment in which so many others are open, up to and with its `-}`
pub data Nested : ℕ → List ℕ → Type 0 where
  last : Nested 0 (45 ∷ 125 ∷ [])
  opened : (depth : ℕ) (cs : List ℕ) → Nested (suc depth) cs → Nested depth (123 ∷ 45 ∷ cs)
  closed : (depth : ℕ) (cs : List ℕ) → Nested depth cs → Nested (suc depth) (45 ∷ 125 ∷ cs)
  other : (depth c e : ℕ) (cs : List ℕ) → opens c e ≡ false → closes c e ≡ false → Nested depth (e ∷ cs) →
      Nested depth (c ∷ e ∷ cs)

-- the characters of a token of this kind
pub data IsToken : TokenKind → List ℕ → Type 0 where
  word : (c : ℕ) (cs : List ℕ) (k : TokenKind) → IsName c cs →
      k ≡ unwrap_or (reserved (encode_utf8_all (c ∷ cs))) (kind.Name (encode_utf8_all (c ∷ cs))) →
      IsToken k (c ∷ cs)
  hole : (c : ℕ) (cs word : List ℕ) → IsName c cs → word ≡ encode_utf8_all (c ∷ cs) → names_hole word ≡ true →
      IsToken (kind.Hole word) (63 ∷ c ∷ cs)
  number : (c n : ℕ) (cs : List ℕ) → list_all is_ascii_digit (c ∷ cs) ≡ true → n ≡ decimal (c ∷ cs) → n < 2 ^ 63 →
      IsToken (kind.Number (pos n)) (c ∷ cs)
  negative : (c n : ℕ) (cs : List ℕ) → list_all is_ascii_digit (c ∷ cs) ≡ true → n ≡ decimal (c ∷ cs) →
      n ≤ 2 ^ 63 → IsToken (kind.Number (neg_ℤ (pos n))) (45 ∷ c ∷ cs)
  text : (body value : List ℕ) (cs : List ℕ) → Spells body value → cs ≡ 34 ∷ (body ++ 34 ∷ []) →
      IsToken (kind.Text value) cs
  one : (c : ℕ) (k : TokenKind) → listed singles (c ∷ []) ≡ Some k → IsToken k (c ∷ [])
  two : (c e : ℕ) (k : TokenKind) → listed pairs (c ∷ e ∷ []) ≡ Some k → IsToken k (c ∷ e ∷ [])

-- the characters of a blank or a comment
pub data IsGap : List ℕ → Type 0 where
  blank : (c : ℕ) → is_blank c ≡ true → IsGap (c ∷ [])
  line : (cs : List ℕ) → list_all (λ c. not (c == 10)) cs ≡ true → IsGap (45 ∷ 45 ∷ cs)
  comment : (cs : List ℕ) → Nested 0 cs → IsGap (123 ∷ 45 ∷ cs)

-- a part of a text: its characters, and its kind where it is a token
pub record Cut : Type 0 where
  pub kind : Option TokenKind
  pub characters : List ℕ

abbrev pub IsPart : Option TokenKind → List ℕ → Type 0
IsPart None cs = IsGap cs
IsPart (Some k) cs = IsToken k cs

-- the characters of parts, one behind the other
abbrev pub characters_of : List Cut → List ℕ
characters_of [] = []
characters_of (cut ∷ cuts) = cut.characters ++ characters_of cuts

abbrev pub with_token : Place → Cut → Option TokenKind → List Token → List Token
with_token p cut None ts = ts
with_token p cut (Some k) ts = token k p cut.characters ∷ ts

-- the tokens of parts that begin at a place, each at the place behind the characters before it, and End behind
-- all of them
abbrev pub tokens_of : Place → List Cut → List Token
tokens_of p [] = token kind.End p [] ∷ []
tokens_of p (cut ∷ cuts) = with_token p cut cut.kind (tokens_of (place_after p cut.characters) cuts)

-- a part has the form of its kind, and what goes on behind it has no form together with it: it is the longest
-- that begins there
pub record IsLongest (cut : Cut) (behind : List ℕ) : Type 0 where
  pub some : 0 < length cut.characters
  pub form : IsPart cut.kind cut.characters
  pub longest : (o : Option TokenKind) (more rest : List ℕ) → behind ≡ more ++ rest → 0 < length more →
      IsPart o (cut.characters ++ more) → ⊥

abbrev pub AreLongest : List Cut → Type 0
AreLongest [] = Unit {0}
AreLongest (cut ∷ cuts) = IsLongest cut (characters_of cuts) × AreLongest cuts

-- the parts make up the characters, each is the longest that begins there, and the tokens are theirs
pub record CutsInto (p : Place) (cs : List ℕ) (ts : List Token) : Type 0 where
  pub cuts : List Cut
  pub whole : characters_of cuts ≡ cs
  pub longest : AreLongest cuts
  pub tokens : ts ≡ tokens_of p cuts

-- the bytes spell these characters, behind a byte order mark or not
abbrev pub AreSpelled : List ℕ → List ℕ → Type 0
AreSpelled bytes cs = (encode_utf8_all cs ≡ bytes) ⊎ (encode_utf8_all (0xFEFF ∷ cs) ≡ bytes)

-- bytes are a text whose tokens these are
pub record IsText (bytes : List ℕ) (ts : List Token) : Type 0 where
  pub characters : List ℕ
  pub spelled : AreSpelled bytes characters
  pub parts : CutsInto start characters ts

-- a fault stands behind some characters at the front of the text: at one of its characters, or directly behind
-- them
pub record HasPlace (bytes : List ℕ) (span : Span) : Type 0 where
  pub before : List ℕ
  pub behind : List ℕ
  pub rest : List ℕ
  pub text : List ℕ
  pub spelled : AreSpelled text (before ++ behind)
  pub front : bytes ≡ text ++ rest
  pub line : span.line ≡ (place_after start before).line
  pub col : span.col ≡ (place_after start before).col

-- the fault of an error has a place
abbrev pub HasPlaceIn : List ℕ → LexError → Type 0
HasPlaceIn bytes errors.Memory = Unit {0}
HasPlaceIn bytes (errors.Fault fault) = HasPlace bytes fault.span
