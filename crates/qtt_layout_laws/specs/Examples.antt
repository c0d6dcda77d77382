-- Worked examples of texts by blocks.
use Rattle.std.specs.Prelude.{ℕ, true, false, [], ◌∷◌, codes}
use Rattle.qtt_base.specs.declared.place.Span.{Span}
use Rattle.qtt_lexer.specs.declared.token.Token.{Token}
use Rattle.qtt_lexer.specs.declared.token.TokenKind.{TokenKind}
use Rattle.qtt_lexer.specs.declared.token.TokenKind.TheVariants as kind
use Rattle.qtt_layout.specs.declared.laid.Laid.{Laid}
use Rattle.qtt_layout.specs.declared.laid.Laid.TheVariants.{Open, Next, Close, Tok}
use Rattle.qtt_layout_laws.specs.Words.{Word}
use Rattle.qtt_layout_laws.specs.Blocks.{BeginsBlock, BeginsItem, Ends, Block}
use Rattle.qtt_layout_laws.specs.Texts.{LaysOut, Refuses}

abbrev pub at : ℕ → ℕ → Span
at line col = record { line = line; col = col; len = 1 }

abbrev pub token : TokenKind → ℕ → ℕ → Token
token k line col = record { kind = k; span = at line col; text = [] }

abbrev pub name : ℕ → ℕ → Token
name line col = token (kind.Name (codes "a")) line col

abbrev pub mark : TokenKind → ℕ → ℕ → Laid
mark k line col = Tok (token k line col)

abbrev pub name_mark : ℕ → ℕ → Laid
name_mark line col = Tok (name line col)

-- a word at a column, in so many brackets
abbrev pub first_word : TokenKind → ℕ → ℕ → Word
first_word k col n = record { token = token k 2 col; is_first = true; brackets = n }

abbrev pub later_word : TokenKind → ℕ → ℕ → Word
later_word k col n = record { token = token k 2 col; is_first = false; brackets = n }

-- what words are for a block at column 5, in one bracket
pub record WordsAsWorked : Type 0 where
  pub begins_block : BeginsBlock (first_word kind.Wildcard 5 1) (later_word kind.Wildcard 6 1)
  pub begins_none : BeginsBlock (first_word kind.Wildcard 5 1) (first_word kind.Wildcard 5 1) → ⊥
  pub begins_item : BeginsItem (first_word kind.Wildcard 5 1) (first_word kind.Wildcard 5 1)
  pub goes_on : BeginsItem (first_word kind.Wildcard 5 1) (first_word kind.Wildcard 6 1) → ⊥
  pub ends_at_line : Ends (first_word kind.Wildcard 5 1) (first_word kind.Wildcard 4 1)
  pub ends_at_bracket : Ends (first_word kind.Wildcard 5 1) (later_word kind.RightParen 7 1)
  pub stays_in_bracket : Ends (first_word kind.Wildcard 5 1) (later_word kind.RightParen 7 2) → ⊥
  pub ends_at_end : Ends (first_word kind.Wildcard 5 1) (first_word kind.End 8 1)
  -- one item, of one word
  pub one_item : Block (first_word kind.Wildcard 5 1) (first_word kind.In 3 1 ∷ []) (first_word kind.In 3 1) []
      (mark kind.Wildcard 2 5 ∷ [])

-- the texts below; a stands for any name
pub record LayoutsAsWorked : Type 0 where
  -- data a : a where
  --   a : a
  --   a : a
  -- a
  pub constructors : LaysOut
      (token kind.Data 1 1 ∷ name 1 6 ∷ token kind.Colon 1 8 ∷ name 1 10 ∷ token kind.Where 1 12
      ∷ name 2 3 ∷ token kind.Colon 2 5 ∷ name 2 7
      ∷ name 3 3 ∷ token kind.Colon 3 5 ∷ name 3 7
      ∷ name 4 1 ∷ token kind.End 4 2 ∷ [])
      (Open (at 1 1) ∷ mark kind.Data 1 1 ∷ name_mark 1 6 ∷ mark kind.Colon 1 8 ∷ name_mark 1 10 ∷ mark kind.Where 1 12
      ∷ Open (at 2 3) ∷ name_mark 2 3 ∷ mark kind.Colon 2 5 ∷ name_mark 2 7
      ∷ Next (at 3 3) ∷ name_mark 3 3 ∷ mark kind.Colon 3 5 ∷ name_mark 3 7 ∷ Close (at 4 1)
      ∷ Next (at 4 1) ∷ name_mark 4 1 ∷ Close (at 4 2) ∷ [])
  -- a = let a = do
  --           a
  --           a
  --     in a
  pub inner_block : LaysOut
      (name 1 1 ∷ token kind.Equals 1 3 ∷ token kind.Let 1 5 ∷ name 1 9 ∷ token kind.Equals 1 11 ∷ token kind.Do 1 13
      ∷ name 2 11 ∷ name 3 11 ∷ token kind.In 4 5 ∷ name 4 8 ∷ token kind.End 4 9 ∷ [])
      (Open (at 1 1) ∷ name_mark 1 1 ∷ mark kind.Equals 1 3 ∷ mark kind.Let 1 5 ∷ name_mark 1 9 ∷ mark kind.Equals 1 11
      ∷ mark kind.Do 1 13 ∷ Open (at 2 11) ∷ name_mark 2 11 ∷ Next (at 3 11) ∷ name_mark 3 11 ∷ Close (at 4 5)
      ∷ mark kind.In 4 5 ∷ name_mark 4 8 ∷ Close (at 4 9) ∷ [])
  -- do a do a
  -- a
  pub two_ends : LaysOut
      (token kind.Do 1 1 ∷ name 1 4 ∷ token kind.Do 1 6 ∷ name 1 9 ∷ name 2 1 ∷ token kind.End 2 2 ∷ [])
      (Open (at 1 1) ∷ mark kind.Do 1 1 ∷ Open (at 1 4) ∷ name_mark 1 4 ∷ mark kind.Do 1 6 ∷ Open (at 1 9) ∷
      name_mark 1 9 ∷ Close (at 2 1) ∷ Close (at 2 1) ∷ Next (at 2 1) ∷ name_mark 2 1 ∷ Close (at 2 2) ∷ [])
  -- (do a ;) a
  pub bracket : LaysOut
      (token kind.LeftParen 1 1 ∷ token kind.Do 1 2 ∷ name 1 5 ∷ token kind.Semicolon 1 7 ∷ token kind.RightParen 1 8
      ∷ name 1 10 ∷ token kind.End 1 11 ∷ [])
      (Open (at 1 1) ∷ mark kind.LeftParen 1 1 ∷ mark kind.Do 1 2 ∷ Open (at 1 5) ∷ name_mark 1 5 ∷ Close (at 1 8)
      ∷ mark kind.RightParen 1 8 ∷ name_mark 1 10 ∷ Close (at 1 11) ∷ [])
  -- (do)
  pub bare : LaysOut
      (token kind.LeftParen 1 1 ∷ token kind.Do 1 2 ∷ token kind.RightParen 1 4 ∷ token kind.End 1 5 ∷ [])
      (Open (at 1 1) ∷ mark kind.LeftParen 1 1 ∷ mark kind.Do 1 2 ∷ Open (at 1 4) ∷ Close (at 1 4)
      ∷ mark kind.RightParen 1 4 ∷ Close (at 1 5) ∷ [])
  -- where
  -- a
  pub no_block : LaysOut (token kind.Where 1 1 ∷ name 2 1 ∷ token kind.End 2 2 ∷ [])
      (Open (at 1 1) ∷ mark kind.Where 1 1 ∷ Open (at 2 1) ∷ Close (at 2 1) ∷ Next (at 2 1) ∷ name_mark 2 1 ∷
      Close (at 2 2) ∷ [])
  --   a do a
  --  a
  pub left : Refuses (name 1 3 ∷ token kind.Do 1 5 ∷ name 1 8 ∷ name 2 2 ∷ token kind.End 2 3 ∷ [])
      (record { kind = 7; span = at 2 2; word = []; count = 0 })
