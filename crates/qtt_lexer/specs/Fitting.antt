-- Pieces lie within the characters at whose front they stand.
use Rattle.std.specs.Prelude.{ℕ, ◌+◌, ◌<◌, ◌≤◌}
use Rattle.qtt_lexer.specs.declared.piece.Piece.{Piece}
use Rattle.qtt_lexer.specs.declared.piece.Piece.TheVariants.{Gap, Token, Wrong}

-- a blank, a comment or a token has some of so many characters, and a fault stands among them or behind them
abbrev pub Fits : ℕ → Piece → Type 0
Fits all (Gap n) = (0 < n) × (n ≤ all)
Fits all (Token kind n) = (0 < n) × (n ≤ all)
Fits all (Wrong cause before n) = (before ≤ all) × (n ≤ all + 1)
