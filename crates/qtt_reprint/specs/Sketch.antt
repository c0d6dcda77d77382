-- Printed words as the grammar sees them, without their places.
use Rattle.std.specs.Prelude.{ℕ, nat_eq, cond, List, [], ◌∷◌, ◌++◌, codes, unwrap_or}
use Rattle.std.specs.Cmp.Lexicographic.{pointwise}
use Rattle.std.specs.Fmt.{signed_decimal}
use Rattle.qtt_base.specs.declared.place.Span.{Span}
use Rattle.qtt_lexer.specs.Piece.{reserved_words, pairs, singles, listed}
use Rattle.qtt_lexer.specs.declared.token.TokenKind.{TokenKind}
use Rattle.qtt_lexer.specs.declared.token.TokenKind.TheVariants as kind
use Rattle.qtt_syntax.specs.Words.{Word, Printed}
use Rattle.qtt_syntax.specs.Words.Word.{sign, named, numeral, bare_type, type_at, quoted, hole_named}
use Rattle.qtt_syntax.specs.Words.Printed.{word, blank, line, opened, next, closed}
use Rattle.qtt_grammar.specs.declared.class.Class.{Class}
use Rattle.qtt_grammar.specs.declared.class.Class.TheVariants as class
use Rattle.qtt_grammar.specs.Lexeme as lexeme
use Rattle.qtt_grammar.specs.declared.lexeme.Lexeme.{Lexeme}
use Rattle.qtt_grammar.specs.Lexeme.{name_class, token_lexeme, type_lexeme, text_lexeme}

abbrev pub nowhere : Span
nowhere = record { line = 0; col = 0; len = 0 }

-- a mark or a token but for its places and the word that stands for it where it is refused
abbrev pub unplaced : Lexeme → Lexeme
unplaced x = record {
  class = x.class;
  place = nowhere;
  name = x.name;
  text = x.text;
  number = x.number;
  number_place = nowhere;
  found = [];
}

-- the form of a name, or of `_`
abbrev pub named_class : List ℕ → Class
named_class n = cond (pointwise nat_eq n (codes "_")) class.Wildcard (name_class n)

-- keywords and symbols by their spelling
abbrev pub signs : List (List ℕ × TokenKind)
signs = reserved_words ++ pairs ++ singles

abbrev pub sign_kind : List ℕ → TokenKind
sign_kind s = unwrap_or (listed signs s) kind.Semicolon

abbrev pub word_lexeme : Word → Lexeme
word_lexeme (sign s) = token_lexeme (sign_kind s) nowhere s
word_lexeme (named n) = lexeme.word (named_class n) nowhere n
word_lexeme (numeral z) = token_lexeme (kind.Number z) nowhere (signed_decimal z)
word_lexeme bare_type = type_lexeme nowhere 0 nowhere
word_lexeme (type_at l) = type_lexeme nowhere l nowhere
word_lexeme (quoted v) = text_lexeme nowhere v
word_lexeme (hole_named n) = lexeme.word class.Hole nowhere n

-- the words and marks, without what stands between them
abbrev pub sketched : List Printed → List Lexeme
sketched [] = []
sketched (word w ∷ ps) = word_lexeme w ∷ sketched ps
sketched (blank ∷ ps) = sketched ps
sketched (line n ∷ ps) = sketched ps
sketched (opened ∷ ps) = lexeme.sign class.Open nowhere ∷ sketched ps
sketched (next ∷ ps) = lexeme.sign class.Next nowhere ∷ sketched ps
sketched (closed ∷ ps) = lexeme.sign class.Close nowhere ∷ sketched ps
