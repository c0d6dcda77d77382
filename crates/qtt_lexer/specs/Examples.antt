-- Worked examples of what stands at the front of characters.
use Rattle.std.specs.Prelude.{◌≡◌, true, false, pos, neg_ℤ, [], ◌∷◌, codes, Some, None}
use Rattle.qtt_lexer.specs.Piece.{number_at, quoted, comment_tail, symbol_at, reserved}
use Rattle.qtt_lexer.specs.declared.piece.Cause.TheVariants.{NumberTooWide}
use Rattle.qtt_lexer.specs.declared.piece.Piece.TheVariants.{Token, Wrong}
use Rattle.qtt_lexer.specs.declared.quoted.Quotation.TheVariants.{Closed, LineEnds, BadEscape}
use Rattle.qtt_lexer.specs.declared.token.TokenKind.TheVariants.{Number, FatArrow, Equals, Where}

-- the examples, computed
pub record TokenRows : Type 0 where
  -- leading zeros are allowed, and the letter behind the digits isn't read
  pub zeros : number_at false (codes "007a") ≡ Token (Number (pos 7)) 3
  -- the least and the greatest number, and those next to them
  pub least : number_at true (codes "9223372036854775808") ≡ Token (Number (neg_ℤ (pos 9223372036854775808))) 20
  pub below_least : number_at true (codes "9223372036854775809") ≡ Wrong NumberTooWide 0 20
  pub greatest : number_at false (codes "9223372036854775807") ≡ Token (Number (pos 9223372036854775807)) 19
  pub above_greatest : number_at false (codes "9223372036854775808") ≡ Wrong NumberTooWide 0 19
  -- `--` inside a text is no comment
  pub dashes : quoted (codes "-- \\n\" x") ≡ Closed (45 ∷ 45 ∷ 32 ∷ 10 ∷ []) 6
  pub escape_that_is_none : quoted (codes "a\\q\"") ≡ BadEscape 1
  pub cut_by_the_line : quoted (codes "a\n\"") ≡ LineEnds
  -- a comment in a comment
  pub nested : comment_tail 0 (codes " {- -} -} x") ≡ Some 9
  -- `{-}` opens a comment and doesn't close it
  pub no_dash_left : comment_tail 0 (codes "} ") ≡ None
  -- the longest symbol is taken
  pub arrow : symbol_at (codes "=>>") ≡ Some (FatArrow, 2)
  pub equals : symbol_at (codes "= >") ≡ Some (Equals, 1)
  pub keyword : reserved (codes "where") ≡ Some Where
  pub no_keyword : reserved (codes "wherever") ≡ None
