-- The first fault of a text, by what stands there.
use Rattle.std.specs.Prelude.{◌≡◌, ◌≢◌, ℕ, ◌<◌, ◌≤◌, ◌^◌, true, false, None, List, [], ◌∷◌, ◌++◌, length, encode_utf8, codes, refl}
use Rattle.std.specs.Str.{encode_utf8_all}
use Rattle.qtt_base.specs.Parts.{has_long_part}
use Rattle.qtt_lexer.specs.Forms.{Spells, Nested, Cut, characters_of}
use Rattle.qtt_lexer.specs.Forms.Spells.{nothing}
use Rattle.qtt_lexer.specs.Lexed.{Mistake}
use Rattle.qtt_lexer.specs.Piece.{decimal, escape, names_hole}
use Rattle.qtt_lexer.specs.Place.{start, place_after, span_at}
use Rattle.qtt_lexer.specs.declared.place.Place.{Place}
use Rattle.qtt_lexer_laws.specs.Characters.{Spell}
use Rattle.qtt_lexer_laws.specs.Cuts.{IsWord, AreDigits, BelongTogether, EndBefore, AreWhole}

-- a fault among characters: its kind, the characters before its place, its length and its word
pub record Flaw : Type 0 where
  pub kind : ℕ
  pub before : List ℕ
  pub length : ℕ
  pub word : List ℕ

abbrev pub flaw : ℕ → List ℕ → ℕ → List ℕ → Flaw
flaw k before n word = record { kind = k; before = before; length = n; word = word }

-- nothing that stands in a text begins here
abbrev pub BeginNothing : List ℕ → Type 0
BeginNothing cs = (front behind : List ℕ) → cs ≡ front ++ behind → BelongTogether front → ⊥

-- a comment that goes on with these characters does not end among them
abbrev pub StayOpen : List ℕ → Type 0
StayOpen cs = (front behind : List ℕ) → cs ≡ front ++ behind → Nested 0 front → ⊥

-- nothing, or a backslash that nothing follows
pub data IsCutOff : List ℕ → Type 0 where
  ended : IsCutOff []
  escaping : IsCutOff (92 ∷ [])

-- the fault at the front of characters, behind which stand bytes that begin no character; 10 ends a line, and 34,
-- 45, 63, 92 and 123 are `"`, `-`, `?`, `\` and `{`
pub data IsFlaw : List ℕ → List ℕ → Flaw → Type 0 where
  -- 1 NotUtf8, behind the last character: where a part would begin, in a text, or in a comment
  broken : (rest : List ℕ) → 0 < length rest → IsFlaw rest [] (flaw 1 [] 0 [])
  broken_text : (rest body value tail cs : List ℕ) → 0 < length rest → Spells body value → IsCutOff tail →
      cs ≡ 34 ∷ (body ++ tail) → IsFlaw rest cs (flaw 1 cs 0 [])
  broken_comment : (rest cs : List ℕ) → 0 < length rest → StayOpen cs →
      IsFlaw rest (123 ∷ 45 ∷ cs) (flaw 1 (123 ∷ 45 ∷ cs) 0 [])
  -- 2 BadCharacter: one that begins nothing, a `?` before a word that names no hole, or the backslash of an escape
  -- in a text that is none
  character : (rest : List ℕ) (c : ℕ) (cs : List ℕ) → c ≢ 34 → BeginNothing (c ∷ cs) →
      IsFlaw rest (c ∷ cs) (flaw 2 [] 1 (encode_utf8 c))
  question : (rest : List ℕ) (c : ℕ) (cs behind all : List ℕ) → IsWord c cs → EndBefore (63 ∷ c ∷ cs) behind →
      names_hole (encode_utf8_all (c ∷ cs)) ≡ false → all ≡ 63 ∷ c ∷ (cs ++ behind) →
      IsFlaw rest all (flaw 2 [] 1 (encode_utf8 63))
  backslash : (rest body value : List ℕ) (e : ℕ) (more cs : List ℕ) → Spells body value → e ≢ 10 →
      escape e ≡ None → cs ≡ 34 ∷ (body ++ 92 ∷ e ∷ more) → IsFlaw rest cs (flaw 2 (34 ∷ body) 1 (encode_utf8 92))
  -- 3 OpenText: the line or the input ends before the closing quote
  line : (rest body value tail more cs : List ℕ) → Spells body value → IsCutOff tail →
      cs ≡ 34 ∷ (body ++ (tail ++ 10 ∷ more)) → IsFlaw rest cs (flaw 3 [] 1 [])
  input : (body value tail cs : List ℕ) → Spells body value → IsCutOff tail → cs ≡ 34 ∷ (body ++ tail) →
      IsFlaw [] cs (flaw 3 [] 1 [])
  -- 4 OpenComment
  comment : (cs : List ℕ) → StayOpen cs → IsFlaw [] (123 ∷ 45 ∷ cs) (flaw 4 [] 2 [])
  -- 5 NumberTooWide: all of the digits, with their `-`
  number : (rest : List ℕ) (c : ℕ) (cs behind all : List ℕ) → AreDigits (c ∷ cs) → EndBefore (c ∷ cs) behind →
      2 ^ 63 ≤ decimal (c ∷ cs) → all ≡ c ∷ (cs ++ behind) → IsFlaw rest all (flaw 5 [] (length (c ∷ cs)) [])
  negative : (rest : List ℕ) (c : ℕ) (cs behind all : List ℕ) → AreDigits (c ∷ cs) →
      EndBefore (45 ∷ c ∷ cs) behind → 2 ^ 63 < decimal (c ∷ cs) → all ≡ 45 ∷ c ∷ (cs ++ behind) →
      IsFlaw rest all (flaw 5 [] (length (45 ∷ c ∷ cs)) [])
  -- 6 NameTooLong: all of the name, behind the `?` of a hole
  name : (rest : List ℕ) (c : ℕ) (cs behind all : List ℕ) → IsWord c cs → EndBefore (c ∷ cs) behind →
      has_long_part (encode_utf8_all (c ∷ cs)) ≡ true → all ≡ c ∷ (cs ++ behind) →
      IsFlaw rest all (flaw 6 [] (length (c ∷ cs)) [])
  hole : (rest : List ℕ) (c : ℕ) (cs behind all : List ℕ) → IsWord c cs → EndBefore (63 ∷ c ∷ cs) behind →
      names_hole (encode_utf8_all (c ∷ cs)) ≡ true → has_long_part (encode_utf8_all (c ∷ cs)) ≡ true →
      all ≡ 63 ∷ c ∷ (cs ++ behind) → IsFlaw rest all (flaw 6 (63 ∷ []) (length (c ∷ cs)) [])

pub a_line_ends_in_a_text : IsFlaw [] (codes "\"\nx") (flaw 3 [] 1 [])
a_line_ends_in_a_text = line [] [] [] [] (codes "x") (codes "\"\nx") nothing ended refl

-- what is reported of a fault among characters that begin at a place
abbrev pub reported : Place → Flaw → Mistake
reported p f =
    record { kind = f.kind; span = span_at (place_after p f.before) f.length; word = f.word; count = 0 }

pub behind_two_characters :
    reported (record { line = 3; col = 5 }) (flaw 2 (codes "\"a") 1 (codes "\\")) ≡
    record { kind = 2; span = record { line = 3; col = 7; len = 1 }; word = codes "\\"; count = 0 }
behind_two_characters = refl

-- the front of a text is cut into parts, and behind them stands this fault
pub record FirstFault (bytes : List ℕ) (m : Mistake) : Type 0 where
  pub cuts : List Cut
  pub behind : List ℕ
  pub rest : List ℕ
  pub spelled : Spell bytes (characters_of cuts ++ behind) rest
  pub whole : AreWhole cuts behind
  pub flaw : Flaw
  pub stands : IsFlaw rest behind flaw
  pub says : m ≡ reported (place_after start (characters_of cuts)) flaw
