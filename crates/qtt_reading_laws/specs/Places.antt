-- Places in a text.
use Rattle.std.specs.Prelude.{◌≡◌, ℕ, List, [], ◌∷◌, ◌++◌, take, codes, refl, Ok, Err}
use lib.Utf8.{encode}
use Rattle.std.specs.Str.{chars, is_utf8}
use Rattle.std.specs.Str.Lossy.{utf8_valid_len}
use Rattle.qtt_base.specs.declared.place.Span.{Span}
use Rattle.qtt_lexer.specs.Place.{start, place_after}
use Rattle.qtt_lexer.specs.Lexed.{Mistake, without_mark, lexed}
use Rattle.qtt_lexer.specs.declared.token.Token.{Token}
use Rattle.qtt_layout.specs.Rules.{laid}
use Rattle.qtt_layout.specs.declared.laid.Laid.{Laid}
use Rattle.qtt_syntax.specs.Tree.{Module}
use Rattle.qtt_grammar.specs.Parsed.{parsed}
use Rattle.qtt_names.specs.Answer as names
use Rattle.qtt_names.specs.Resolved.{resolved}
use Rattle.qtt_names.specs.Scope.{Scope}
use Rattle.qtt_reading_laws.specs.Standing.{Module_stands}

-- the characters of a text: a byte order mark at its start is none of them, and they end where bytes follow that are
-- no character
abbrev pub characters_in : List ℕ → List ℕ
characters_in bytes = without_mark (chars (take (utf8_valid_len bytes) bytes))

-- A line and a column at which one of the text's characters stands, or directly behind the last one.
pub record IsPlaceOf (bytes : List ℕ) (span : Span) : Type 0 where
  -- the characters before the place, and those from it on
  pub before : List ℕ
  pub behind : List ℕ
  pub whole : characters_in bytes ≡ before ++ behind
  pub line : span.line ≡ (place_after start before).line
  pub col : span.col ≡ (place_after start before).col

-- `b` stands at the start of the second line
pub second_line : IsPlaceOf (codes "a\nb") (record { line = 2; col = 1; len = 1 })
unfolding chars encode is_utf8 utf8_valid_len
second_line = record { before = codes "a\n"; behind = codes "b"; whole = refl; line = refl; col = refl }

-- directly behind the last character
pub behind_the_last : IsPlaceOf (codes "a\nb") (record { line = 2; col = 2; len = 0 })
unfolding chars encode is_utf8 utf8_valid_len
behind_the_last = record { before = codes "a\nb"; behind = []; whole = refl; line = refl; col = refl }

-- a byte order mark takes no column, and a byte that is no character stands behind the last one
pub behind_a_mark : IsPlaceOf (0xEF ∷ 0xBB ∷ 0xBF ∷ 97 ∷ 0xFF ∷ []) (record { line = 1; col = 2; len = 0 })
unfolding chars encode is_utf8 utf8_valid_len
behind_a_mark = record { before = codes "a"; behind = []; whole = refl; line = refl; col = refl }

-- The place of each fault of reading is one of the text: of lexing, layout and the grammar, and of names where the
-- tree was read from the text. So is each place of the tree, as that of the header's name, and each place of the tree
-- with the targets of its names.
pub record FaultsStandInTheText : Type 0 where
  pub of_lexing : (text : List ℕ) (m : Mistake) → lexed text ≡ Err m → IsPlaceOf text m.span
  pub of_layout : (text : List ℕ) (ts : List Token) (m : Mistake) → lexed text ≡ Ok ts → laid ts ≡ Err m →
      IsPlaceOf text m.span
  pub of_grammar : (text : List ℕ) (ts : List Token) (ms : List Laid) (m : Mistake) → lexed text ≡ Ok ts →
      laid ts ≡ Ok ms → parsed ms ≡ Err m → IsPlaceOf text m.span
  pub of_names : (text : List ℕ) (ts : List Token) (ms : List Laid) (t : Module) (s : Scope) (m : names.Mistake) →
      lexed text ≡ Ok ts → laid ts ≡ Ok ms → parsed ms ≡ Ok t → resolved s t ≡ Err m → IsPlaceOf text m.span
  pub of_trees : (text : List ℕ) (ts : List Token) (ms : List Laid) (t : Module) → lexed text ≡ Ok ts →
      laid ts ≡ Ok ms → parsed ms ≡ Ok t → Module_stands (IsPlaceOf text) t
  pub of_resolved : (text : List ℕ) (ts : List Token) (ms : List Laid) (t u : Module) (s : Scope) →
      lexed text ≡ Ok ts → laid ts ≡ Ok ms → parsed ms ≡ Ok t → resolved s t ≡ Ok u →
      Module_stands (IsPlaceOf text) u
