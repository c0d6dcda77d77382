-- Worked examples of the marks of tokens.
use Rattle.std.specs.Prelude.{◌≡◌, ℕ, [], ◌∷◌, Ok, Err, codes}
use Rattle.qtt_base.specs.declared.place.Span.{Span}
use Rattle.qtt_lexer.specs.declared.token.Token.{Token}
use Rattle.qtt_lexer.specs.declared.token.TokenKind.{TokenKind}
use Rattle.qtt_lexer.specs.declared.token.TokenKind.TheVariants.{Name, Where, Do, LeftParen, RightParen, Semicolon, End}
use Rattle.qtt_layout.specs.Rules.{laid, bad_indent}
use Rattle.qtt_layout.specs.declared.laid.Laid.TheVariants.{Open, Next, Close, Tok}

abbrev at : ℕ → ℕ → Span
at line col = record { line = line; col = col; len = 1 }

abbrev token : TokenKind → ℕ → ℕ → Token
token kind line col = record { kind = kind; span = at line col; text = [] }

abbrev name : ℕ → ℕ → Token
name line col = token (Name (codes "a")) line col

-- the examples, computed
pub record LayoutRows : Type 0 where
  -- no token but End
  pub nothing : laid (token End 1 1 ∷ []) ≡ Ok (Open (at 1 1) ∷ Close (at 1 1) ∷ [])
  -- a where
  --   a
  --   a
  -- a
  pub two_items : laid (name 1 1 ∷ token Where 1 3 ∷ name 2 3 ∷ name 3 3 ∷ name 4 1 ∷ token End 4 2 ∷ [])
      ≡ Ok (Open (at 1 1) ∷ Tok (name 1 1) ∷ Tok (token Where 1 3) ∷ Open (at 2 3) ∷ Tok (name 2 3) ∷
      Next (at 3 3) ∷ Tok (name 3 3)
      ∷ Close (at 4 1) ∷ Next (at 4 1) ∷ Tok (name 4 1) ∷ Close (at 4 2) ∷ [])
  -- an empty block: a token at the enclosing block's column opens none
  pub empty : laid (token Do 1 1 ∷ name 2 1 ∷ token End 2 2 ∷ [])
      ≡ Ok (Open (at 1 1) ∷ Tok (token Do 1 1) ∷ Open (at 2 1) ∷ Close (at 2 1) ∷ Next (at 2 1) ∷ Tok (name 2 1) ∷
      Close (at 2 2) ∷ [])
  -- (do a ;) a
  pub bracket : laid (token LeftParen 1 1 ∷ token Do 1 2 ∷ name 1 5 ∷ token Semicolon 1 7 ∷ token RightParen 1 8 ∷
      name 1 10 ∷ token End 1 11 ∷ [])
      ≡ Ok (Open (at 1 1) ∷ Tok (token LeftParen 1 1) ∷ Tok (token Do 1 2) ∷ Open (at 1 5) ∷ Tok (name 1 5) ∷
      Close (at 1 8)
      ∷ Tok (token RightParen 1 8) ∷ Tok (name 1 10) ∷ Close (at 1 11) ∷ [])
  -- a token left of the outermost block
  pub left : laid (name 1 3 ∷ name 2 2 ∷ token End 2 3 ∷ []) ≡ Err (bad_indent (name 2 2))
