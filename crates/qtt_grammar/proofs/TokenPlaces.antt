-- The lexemes of tokens, and where they stand.
use Rattle.std.proofs.Common.{◌≡◌, ◌∙◌, ℕ, ◌+◌, ◌<◌, List, length, get_or, drop, sym, refl}
use Rattle.std.proofs.lemmas.List.{at_drop_more}
use Rattle.qtt_base.specs.declared.place.Span.{Span}
use Rattle.qtt_lexer.specs.declared.token.TokenKind.{TokenKind}
use Rattle.qtt_lexer.specs.declared.token.TokenKind.TheVariants as kind
use Rattle.qtt_layout.specs.declared.laid.Laid.{Laid}
use Rattle.qtt_grammar.specs.Lexeme.{token_lexeme, lexeme_of, joined, lexemes}

pub token_place : (k : TokenKind) (s : Span) (t : List ℕ) → (token_lexeme k s t).place ≡ s
token_place kind.Module s t = refl
token_place kind.Import s t = refl
token_place kind.Data s t = refl
token_place kind.Where s t = refl
token_place kind.Do s t = refl
token_place kind.Let s t = refl
token_place kind.In s t = refl
token_place kind.Partial s t = refl
token_place kind.The s t = refl
token_place kind.Type s t = refl
token_place (kind.Name n) s t = refl
token_place kind.Wildcard s t = refl
token_place (kind.Number z) s t = refl
token_place (kind.Text v) s t = refl
token_place (kind.Hole n) s t = refl
token_place kind.LeftParen s t = refl
token_place kind.RightParen s t = refl
token_place kind.DotParen s t = refl
token_place kind.Arrow s t = refl
token_place kind.LeftArrow s t = refl
token_place kind.FatArrow s t = refl
token_place kind.Colon s t = refl
token_place kind.Equals s t = refl
token_place kind.Semicolon s t = refl
token_place kind.Backslash s t = refl
token_place kind.LeftBrace s t = refl
token_place kind.RightBrace s t = refl
token_place kind.End s t = refl

pub token_number_place : (k : TokenKind) (s : Span) (t : List ℕ) → (token_lexeme k s t).number_place ≡ s
token_number_place kind.Module s t = refl
token_number_place kind.Import s t = refl
token_number_place kind.Data s t = refl
token_number_place kind.Where s t = refl
token_number_place kind.Do s t = refl
token_number_place kind.Let s t = refl
token_number_place kind.In s t = refl
token_number_place kind.Partial s t = refl
token_number_place kind.The s t = refl
token_number_place kind.Type s t = refl
token_number_place (kind.Name n) s t = refl
token_number_place kind.Wildcard s t = refl
token_number_place (kind.Number z) s t = refl
token_number_place (kind.Text v) s t = refl
token_number_place (kind.Hole n) s t = refl
token_number_place kind.LeftParen s t = refl
token_number_place kind.RightParen s t = refl
token_number_place kind.DotParen s t = refl
token_number_place kind.Arrow s t = refl
token_number_place kind.LeftArrow s t = refl
token_number_place kind.FatArrow s t = refl
token_number_place kind.Colon s t = refl
token_number_place kind.Equals s t = refl
token_number_place kind.Semicolon s t = refl
token_number_place kind.Backslash s t = refl
token_number_place kind.LeftBrace s t = refl
token_number_place kind.RightBrace s t = refl
token_number_place kind.End s t = refl

-- a token's lexeme with its parts written out
pub token_parts : (k : TokenKind) (s : Span) (t found : List ℕ) →
    record {
      class = (token_lexeme k s t).class;
      place = s;
      name = (token_lexeme k s t).name;
      text = (token_lexeme k s t).text;
      number = (token_lexeme k s t).number;
      number_place = s;
      found =
          found;
    } ≡ record (token_lexeme k s t) { found = found }
token_parts k s t found = rw (token_place k s t, token_number_place k s t) refl

-- the lexemes from a mark or token on, by those behind it
pub lexemes_step : (ms : List Laid) (i j : ℕ) (x : Laid) → i < length ms → i + 1 ≡ j → x ≡ get_or ms i x →
    lexemes (drop i ms) ≡ joined (lexeme_of x) (lexemes (drop j ms))
lexemes_step ms i j x h e f = at_drop_more lexemes ms i x h ∙ rw (sym f, sym e) refl
