-- Worked examples of reading.
use Rattle.std.specs.Prelude.{ℕ, pos, false, List, [], ◌∷◌, ◌++◌, codes, replicate}
use Rattle.qtt_base.specs.declared.place.Span.{Span}
use Rattle.qtt_usage.specs.declared.mult.Mult.TheVariants as mult
use Rattle.qtt_lexer.specs.declared.token.TokenKind.{TokenKind}
use Rattle.qtt_lexer.specs.declared.token.TokenKind.TheVariants as kind
use Rattle.qtt_layout.specs.declared.laid.Laid.{Laid}
use Rattle.qtt_layout.specs.declared.laid.Laid.TheVariants.{Open, Next, Close, Tok}
use Rattle.qtt_syntax.specs.Tree.{Module}
use Rattle.qtt_syntax.specs.Tree.Tree.{universe}
use Rattle.qtt_syntax.specs.Tree.Item.{signature}
use Rattle.qtt_syntax.specs.Tree.Module.{module_text}
use Rattle.qtt_grammar.specs.Lexeme.{lexemes}
use Rattle.qtt_reading_laws.specs.FirstFault.{IsTreeOf, IsFirstFault}
use Rattle.qtt_reading_laws.specs.Places.{IsPlaceOf}
use Rattle.qtt_reading_laws.specs.Printed.{IsParsedAgain}

abbrev pub at : ℕ → ℕ → Span
at col len = record { line = 1; col = col; len = len }

abbrev pub token : TokenKind → ℕ → List ℕ → ℕ → Laid
token k col text len = Tok (record { kind = k; span = at col len; text = text })

-- module Main
abbrev pub header : List Laid
header = Open (at 1 6) ∷ token kind.Module 1 (codes "module") 6 ∷
    token (kind.Name (codes "Main")) 8 (codes "Main") 4 ∷ []

-- module Main; x :
abbrev pub signing : List Laid
signing = header ++
    (Next (at 12 1) ∷ token (kind.Name (codes "x")) 14 (codes "x") 1 ∷ token kind.Colon 16 (codes ":") 1 ∷ [])

-- the end of a line of so many columns
abbrev pub ended : ℕ → List Laid
ended col = Close (at col 0) ∷ []

abbrev pub header_tree : Module
header_tree = module_text (at 1 6) (codes "Main") (at 8 4) [] []

-- the examples, computed by `parsed`, of what the grammar's relation has
pub record ReadingRows : Type 0 where
  -- module Main
  pub header_alone : IsTreeOf (lexemes (header ++ ended 12)) header_tree
  -- module Main; x : Type 1
  pub type_1 : IsTreeOf
      (lexemes (signing ++
      (token kind.Type 18 (codes "Type") 4 ∷ token (kind.Number (pos 1)) 23 (codes "1") 1 ∷ ended 24)))
      (module_text (at 1 6) (codes "Main") (at 8 4) []
      (signature false mult.Many (codes "x") (at 14 1) (universe 1 (at 23 1) (at 18 4)) (at 14 1) ∷ []))
  -- module Main; x : Type 100
  pub type_too_great : IsFirstFault
      (lexemes (signing ++
      (token kind.Type 18 (codes "Type") 4 ∷ token (kind.Number (pos 100)) 23 (codes "100") 3 ∷ ended 26)))
      (record { kind = 31; span = at 23 3; word = codes "number after Type"; count = 100 })
  -- module Main; x :
  pub wants_type : IsFirstFault (lexemes (signing ++ ended 17))
      (record { kind = 8; span = at 17 0; word = codes "end"; count = 0 })
  -- module Main; x : ->
  pub arrow_alone : IsFirstFault (lexemes (signing ++ (token kind.Arrow 18 (codes "->") 2 ∷ ended 20)))
      (record { kind = 8; span = at 18 2; word = codes "->"; count = 0 })
  -- 201 brackets behind the colon, here at one place
  pub level_201 : IsFirstFault (lexemes (signing ++ replicate 201 (token kind.LeftParen 18 (codes "(") 1)))
      (record { kind = 9; span = at 18 1; word = []; count = 0 })
  -- the tree of `module Main` is printed and read again
  pub printed_again : IsParsedAgain header_tree
  -- nothing stands two columns behind the last character
  pub beyond_the_end : IsPlaceOf (codes "a") (at 3 0) → ⊥
