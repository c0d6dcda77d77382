-- Marks and tokens as the grammar sees them.
use Rattle.std.specs.Prelude.{ℕ, ℤ, pos, negsuc, Bool, cond, ◌&&◌, ◌==◌, List, [], ◌∷◌, codes}
use Rattle.qtt_base.specs.declared.place.Span.{Span}
use Rattle.qtt_lexer.specs.Names.{is_simple, is_big}
use Rattle.qtt_lexer.specs.declared.token.TokenKind.{TokenKind}
use Rattle.qtt_lexer.specs.declared.token.TokenKind.TheVariants as kind
use Rattle.qtt_layout.specs.declared.laid.Laid.{Laid}
use Rattle.qtt_layout.specs.declared.laid.Laid.TheVariants as laid
use Rattle.qtt_grammar.specs.declared.class.Class.{Class}
use Rattle.qtt_grammar.specs.declared.class.Class.TheVariants as class
use Rattle.qtt_grammar.specs.declared.lexeme.Lexeme.{Lexeme}
use Rattle.qtt_grammar.specs.Classes.{is_type, is_natural}

abbrev pub sign : Class → Span → Lexeme
sign c s = record { class = c; place = s; name = []; text = []; number = pos 0; number_place = s; found = [] }

abbrev pub word : Class → Span → List ℕ → Lexeme
word c s name = record { class = c; place = s; name = name; text = []; number = pos 0; number_place = s; found = [] }

abbrev pub name_class : List ℕ → Class
name_class name = cond (is_simple name) (cond (is_big name) class.Big class.Small)
    (cond (is_big name) class.BigPath class.SmallPath)

abbrev pub sign_class : ℤ → Class
sign_class (pos n) = class.Natural
sign_class (negsuc n) = class.Negative

-- a number by its spelling
abbrev pub number_class : List ℕ → ℤ → Class
number_class (b ∷ []) z = cond (b == 48) class.Zero (cond (b == 49) class.One (sign_class z))
number_class _ z = sign_class z

abbrev pub text_lexeme : Span → List ℕ → Lexeme
text_lexeme s value = record {
  class = class.Text;
  place = s;
  name = [];
  text = value;
  number = pos 0;
  number_place = s;
  found = [];
}

-- `Type` with a number
abbrev pub type_lexeme : Span → ℕ → Span → Lexeme
type_lexeme s n ns = record {
  class = class.Universe;
  place = s;
  name = [];
  text = [];
  number = pos n;
  number_place = ns;
  found = [];
}

-- a token's form, at its place and as it is spelled
abbrev pub token_lexeme : TokenKind → Span → List ℕ → Lexeme
token_lexeme kind.Module s t = sign class.Module s
token_lexeme kind.Import s t = sign class.Import s
token_lexeme kind.Data s t = sign class.Data s
token_lexeme kind.Where s t = sign class.Where s
token_lexeme kind.Do s t = sign class.Do s
token_lexeme kind.Let s t = sign class.Let s
token_lexeme kind.In s t = sign class.In s
token_lexeme kind.Partial s t = sign class.Partial s
token_lexeme kind.The s t = sign class.The s
token_lexeme kind.Type s t = sign class.Universe s
token_lexeme (kind.Name n) s t = word (name_class n) s n
token_lexeme kind.Wildcard s t = word class.Wildcard s (codes "_")
token_lexeme (kind.Number z) s t =
    record { class = number_class t z; place = s; name = []; text = []; number = z; number_place = s; found = [] }
token_lexeme (kind.Text v) s t = text_lexeme s v
token_lexeme (kind.Hole n) s t = word class.Hole s n
token_lexeme kind.LeftParen s t = sign class.LeftParen s
token_lexeme kind.RightParen s t = sign class.RightParen s
token_lexeme kind.DotParen s t = sign class.DotParen s
token_lexeme kind.Arrow s t = sign class.Arrow s
token_lexeme kind.LeftArrow s t = sign class.LeftArrow s
token_lexeme kind.FatArrow s t = sign class.FatArrow s
token_lexeme kind.Colon s t = sign class.Colon s
token_lexeme kind.Equals s t = sign class.Equals s
token_lexeme kind.Semicolon s t = sign class.Other s
token_lexeme kind.Backslash s t = sign class.Backslash s
token_lexeme kind.LeftBrace s t = sign class.LeftBrace s
token_lexeme kind.RightBrace s t = sign class.RightBrace s
token_lexeme kind.End s t = sign class.Other s

abbrev pub lexeme_of : Laid → Lexeme
lexeme_of (laid.Open s) = record (sign class.Open s) { found = codes "open" }
lexeme_of (laid.Next s) = record (sign class.Next s) { found = codes "next" }
lexeme_of (laid.Close s) = record (sign class.Close s) { found = codes "close" }
lexeme_of (laid.Tok t) = record (token_lexeme t.kind t.span t.text) { found = t.text }

abbrev pub takes_number : Lexeme → Lexeme → Bool
takes_number x y = is_type x.class && is_natural y.class

-- `Type` takes a number that follows it
abbrev pub joined : Lexeme → List Lexeme → List Lexeme
joined x [] = x ∷ []
joined x (y ∷ ls) = cond (takes_number x y) (record x { number = y.number; number_place = y.place } ∷ ls) (x ∷ y ∷ ls)

abbrev pub lexemes : List Laid → List Lexeme
lexemes [] = []
lexemes (x ∷ ls) = joined (lexeme_of x) (lexemes ls)
