-- Tokens as a reader of columns sees them.
use Rattle.std.specs.Prelude.{◌≡◌, ℕ, ◌+◌, ◌-◌, ◌==◌, not, Bool, true, false, List, [], ◌∷◌, refl}
use Rattle.qtt_base.specs.declared.place.Span.{Span}
use Rattle.qtt_lexer.specs.declared.token.Token.{Token}
use Rattle.qtt_lexer.specs.declared.token.TokenKind.{TokenKind}
use Rattle.qtt_lexer.specs.declared.token.TokenKind.TheVariants as kind

-- a token in its text: whether it is the first of its line, and how many brackets are open before it
pub record Word : Type 0 where
  pub token : Token
  pub is_first : Bool
  pub brackets : ℕ

abbrev pub kind_of : Word → TokenKind
kind_of w = w.token.kind

abbrev pub place_of : Word → Span
place_of w = w.token.span

abbrev pub column_of : Word → ℕ
column_of w = w.token.span.col

-- how many brackets are open behind a token, where so many are open before it
abbrev pub open_behind : TokenKind → ℕ → ℕ
open_behind kind.LeftParen n = n + 1
open_behind kind.DotParen n = n + 1
open_behind kind.RightParen n = n - 1
open_behind _ n = n

-- the words of tokens, behind a token of this line, with so many brackets open
abbrev pub words_behind : ℕ → ℕ → List Token → List Word
words_behind line n [] = []
words_behind line n (t ∷ ts) =
    record { token = t; is_first = not (t.span.line == line); brackets = n }
    ∷ words_behind t.span.line (open_behind t.kind n) ts

-- the words of a text
abbrev pub words : List Token → List Word
words ts = words_behind 0 0 ts

-- a text has an end
pub data HasEnd : List Token → Type 0 where
  here : {t : Token} {ts : List Token} → t.kind ≡ kind.End → HasEnd (t ∷ ts)
  later : {t : Token} {ts : List Token} → HasEnd ts → HasEnd (t ∷ ts)

abbrev example_token : TokenKind → ℕ → ℕ → Token
example_token k line col = record { kind = k; span = record { line = line; col = col; len = 1 }; text = [] }

-- ( )
--   in
pub words_as_worked : (words (example_token kind.LeftParen 1 1 ∷ example_token kind.RightParen 1 3 ∷
    example_token kind.In 2 3 ∷ []))
    ≡ (record { token = example_token kind.LeftParen 1 1; is_first = true; brackets = 0 }
    ∷ record { token = example_token kind.RightParen 1 3; is_first = false; brackets = 1 }
    ∷ record { token = example_token kind.In 2 3; is_first = true; brackets = 0 } ∷ [])
words_as_worked = refl
