-- The layout of a text: its outermost block begins at its first token.
use Rattle.std.specs.Prelude.{◌≡◌, ◌≢◌, ◌<◌, true, List, [], ◌∷◌, ◌++◌}
use Rattle.qtt_lexer.specs.Lexed.{Mistake}
use Rattle.qtt_lexer.specs.declared.token.Token.{Token}
use Rattle.qtt_lexer.specs.declared.token.TokenKind.TheVariants as kind
use Rattle.qtt_layout.specs.declared.laid.Laid.{Laid}
use Rattle.qtt_layout.specs.declared.laid.Laid.TheVariants.{Open, Close}
use Rattle.qtt_layout_laws.specs.Words.{Word, kind_of, place_of, column_of, words}
use Rattle.qtt_layout_laws.specs.Blocks.{Block}
use Rattle.qtt_layout_laws.specs.Counts.{Counts}

-- tokens are laid out with these marks among them
pub data LaysOut (ts : List Token) (ms : List Laid) : Type 0 where
  -- where the text ends at once, its block is empty
  empty : {e : Word} {es : List Word} → words ts ≡ e ∷ es → kind_of e ≡ kind.End →
      ms ≡ Open (place_of e) ∷ Close (place_of e) ∷ [] → LaysOut ts ms
  -- else its block goes from the first token to the end; of its marks those stand that count
  whole : {b e : Word} {ws es : List Word} {ns : List Laid} → words ts ≡ b ∷ ws → kind_of b ≢ kind.End →
      Block b ws e es ns → kind_of e ≡ kind.End →
      Counts (Open (place_of b) ∷ (ns ++ Close (place_of e) ∷ [])) ms → LaysOut ts ms

-- kind 7, at a token
abbrev pub bad_indent : Word → Mistake
bad_indent w = record { kind = 7; span = place_of w; word = []; count = 0 }

-- tokens are refused
pub data Refuses (ts : List Token) (m : Mistake) : Type 0 where
  -- at the first token of a line that stands left of the outermost block
  left : {b e : Word} {ws es : List Word} {ns : List Laid} → words ts ≡ b ∷ ws → kind_of b ≢ kind.End →
      Block b ws e es ns → kind_of e ≢ kind.End → e.is_first ≡ true → column_of e < column_of b →
      m ≡ bad_indent e → Refuses ts m
