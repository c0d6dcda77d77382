-- Worked examples of tokens and of each kind of fault.
use Rattle.std.specs.Prelude.{ℕ, pos, List, [], ◌∷◌, ◌++◌, codes, replicate}
use Rattle.qtt_base.specs.declared.place.Span.{Span}
use Rattle.qtt_lexer.specs.Lexed.{Mistake}
use Rattle.qtt_lexer.specs.declared.token.Token.{Token}
use Rattle.qtt_lexer.specs.declared.token.TokenKind.{TokenKind}
use Rattle.qtt_lexer.specs.declared.token.TokenKind.TheVariants.{Name, Arrow, Hole, Number, LeftBrace, End}
use Rattle.qtt_lexer_laws.specs.Cuts.{HasTokens}
use Rattle.qtt_lexer_laws.specs.Flaws.{FirstFault}

abbrev pub at : ℕ → ℕ → ℕ → Span
at line col len = record { line = line; col = col; len = len }

abbrev pub fault : ℕ → Span → List ℕ → Mistake
fault k span word = record { kind = k; span = span; word = word; count = 0 }

abbrev pub token : TokenKind → Span → List ℕ → Token
token k span text = record { kind = k; span = span; text = text }

-- the examples, computed
pub record FaultRows : Type 0 where
  -- behind a byte order mark, a name, the longest symbol, a hole, a number behind a comment, and `{` without a `-`
  pub tokens : HasTokens (239 ∷ 187 ∷ 191 ∷ codes "x->?y\n{--}07{")
      (token (Name (codes "x")) (at 1 1 1) (codes "x") ∷ token Arrow (at 1 2 2) (codes "->")
      ∷ token (Hole (codes "y")) (at 1 4 2) (codes "?y") ∷ token (Number (pos 7)) (at 2 5 2) (codes "07")
      ∷ token LeftBrace (at 2 7 1) (codes "{") ∷ token End (at 2 8 0) [] ∷ [])
  -- a byte that begins no character, where a part would begin, in a text and in a comment
  pub not_utf8 : FirstFault (codes "(\n" ++ 255 ∷ []) (fault 1 (at 2 1 0) [])
  pub not_utf8_in_a_text : FirstFault (codes "( \"ab" ++ 255 ∷ codes "\"") (fault 1 (at 1 6 0) [])
  pub not_utf8_in_a_comment : FirstFault (codes "( {- " ++ 195 ∷ codes "-}") (fault 1 (at 1 6 0) [])
  -- a character that begins nothing, a `?` before no name and before one of two parts, and an escape that is none,
  -- which comes before the missing quote
  pub bad_character : FirstFault (codes "( ^") (fault 2 (at 1 3 1) (codes "^"))
  pub bad_question : FirstFault (codes "(\n?(") (fault 2 (at 2 1 1) (codes "?"))
  pub qualified_hole : FirstFault (codes "( ?a.b") (fault 2 (at 1 3 1) (codes "?"))
  pub bad_escape : FirstFault (codes " \"(\\q") (fault 2 (at 1 4 1) (codes "\\"))
  -- a text whose line ends, and one that the input ends
  pub line_ends : FirstFault (codes "(\n\"(\n\"") (fault 3 (at 2 1 1) [])
  pub input_ends : FirstFault (codes "\t\"(") (fault 3 (at 1 9 1) [])
  -- the outermost comment is open
  pub open_comment : FirstFault (codes " {- {- -}") (fault 4 (at 1 2 2) [])
  -- one above the greatest number, and one below the least
  pub too_great : FirstFault (codes "(9223372036854775808)") (fault 5 (at 1 2 19) [])
  pub too_small : FirstFault (codes "(-9223372036854775809)") (fault 5 (at 1 2 20) [])
  -- a name of 256 bytes, and in a hole
  pub long_name : FirstFault (32 ∷ replicate 256 97) (fault 6 (at 1 2 256) [])
  pub long_hole : FirstFault (32 ∷ 63 ∷ replicate 256 97) (fault 6 (at 1 3 256) [])
