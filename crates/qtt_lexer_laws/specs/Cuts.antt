-- The parts that the front of a text is cut into, each the longest that begins there.
use Rattle.std.specs.Prelude.{◌≡◌, ℕ, ◌<◌, true, Option, List, [], ◌∷◌, ◌++◌, length, codes, refl}
use Rattle.std.specs.List.{list_all}
use Rattle.std.specs.Char.{is_ascii_digit}
use Rattle.qtt_lexer.specs.Characters.{begins_part}
use Rattle.qtt_lexer.specs.Forms.{all_go_on, IsPart, Cut, characters_of, tokens_of}
use Rattle.qtt_lexer.specs.Place.{start}
use Rattle.qtt_lexer.specs.declared.token.Token.{Token}
use Rattle.qtt_lexer.specs.declared.token.TokenKind.{TokenKind}
use Rattle.qtt_lexer_laws.specs.Characters.{Spell}

-- a name or a keyword, however long
pub record IsWord (c : ℕ) (cs : List ℕ) : Type 0 where
  pub begins : begins_part c ≡ true
  pub goes_on : all_go_on cs ≡ true

-- digits, whatever they come to
abbrev pub AreDigits : List ℕ → Type 0
AreDigits cs = list_all is_ascii_digit cs ≡ true

-- characters that belong together: a part of a text; a word, a `?` with a word, or digits with or without a `-`,
-- beyond a limit too; and what opens a comment, closed or not
pub data BelongTogether : List ℕ → Type 0 where
  part : (o : Option TokenKind) (cs : List ℕ) → IsPart o cs → BelongTogether cs
  word : (c : ℕ) (cs : List ℕ) → IsWord c cs → BelongTogether (c ∷ cs)
  hole : (c : ℕ) (cs : List ℕ) → IsWord c cs → BelongTogether (63 ∷ c ∷ cs)
  digits : (c : ℕ) (cs : List ℕ) → AreDigits (c ∷ cs) → BelongTogether (c ∷ cs)
  negative : (c : ℕ) (cs : List ℕ) → AreDigits (c ∷ cs) → BelongTogether (45 ∷ c ∷ cs)
  opening : BelongTogether (123 ∷ 45 ∷ [])

pub wide_digits_belong_together : BelongTogether (codes "9223372036854775808")
wide_digits_belong_together = digits 57 (codes "223372036854775808") refl

-- nothing that goes on behind these characters belongs together with them
abbrev pub EndBefore : List ℕ → List ℕ → Type 0
EndBefore cs behind =
    (more rest : List ℕ) → behind ≡ more ++ rest → 0 < length more → BelongTogether (cs ++ more) → ⊥

-- a part that is the longest that begins there
pub record IsWhole (cut : Cut) (behind : List ℕ) : Type 0 where
  pub some : 0 < length cut.characters
  pub form : IsPart cut.kind cut.characters
  pub longest : EndBefore cut.characters behind

abbrev pub AreWhole : List Cut → List ℕ → Type 0
AreWhole [] behind = Unit {0}
AreWhole (cut ∷ cuts) behind = IsWhole cut (characters_of cuts ++ behind) × AreWhole cuts behind

-- bytes are a text that is cut into parts as a whole, whose tokens these are
pub record HasTokens (bytes : List ℕ) (ts : List Token) : Type 0 where
  pub cuts : List Cut
  pub spelled : Spell bytes (characters_of cuts) []
  pub whole : AreWhole cuts []
  pub tokens : ts ≡ tokens_of start cuts
