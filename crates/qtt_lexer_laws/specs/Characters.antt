-- The characters that bytes spell.
use Rattle.std.specs.Prelude.{◌≡◌, ℕ, ◌==◌, false, List, ◌∷◌, ◌++◌, codes}
use Rattle.std.specs.Str.{IsUtf8, StartsWithNoChar, encode_utf8_all}
use Rattle.qtt_lexer.specs.Characters.{begins}

-- one byte order mark at the start is passed over
pub data IsBehindMark : List ℕ → List ℕ → Type 0 where
  marked : (cs : List ℕ) → IsBehindMark (0xFEFF ∷ cs) cs
  unmarked : (cs : List ℕ) → begins (λ c. c == 0xFEFF) cs ≡ false → IsBehindMark cs cs

-- the front of bytes spells these characters, behind a byte order mark or not, and the rest of the bytes begins no
-- character
pub record Spell (bytes cs rest : List ℕ) : Type 0 where
  pub front : List ℕ
  pub whole : front ++ rest ≡ bytes
  pub utf8 : IsUtf8 front
  pub no_more : StartsWithNoChar rest
  pub all : List ℕ
  pub spelled : encode_utf8_all all ≡ front
  pub behind_mark : IsBehindMark all cs

pub one_mark_is_passed : IsBehindMark (0xFEFF ∷ 0xFEFF ∷ codes "x") (0xFEFF ∷ codes "x")
one_mark_is_passed = marked (0xFEFF ∷ codes "x")
