-- What tokens are as a module's text, with every limit.
use Rattle.std.specs.Prelude.{◌≡◌, Bool, true, false, cond, nat_lt, ◌==◌, List, Option, None, ◌⊎◌}
use Rattle.qtt_base.specs.declared.place.Span.{Span}
use Rattle.qtt_phrase.specs.Phrase.{FirstBad, Settles}
use Rattle.qtt_syntax.specs.Tree.{Module}
use Rattle.qtt_grammar.specs.declared.class.Pass.TheVariants.{Counts}
use Rattle.qtt_grammar.specs.declared.lexeme.Lexeme.{Lexeme}
use Rattle.qtt_grammar.specs.declared.stop.Excess.{Excess}
use Rattle.qtt_grammar.specs.Grammar.{IsText}
use Rattle.qtt_grammar.specs.Chain.{IsChained}

pub data Outcome : Type 0 where
  -- a tree
  tree : Module → Outcome
  -- the first limit that is passed
  passed : Excess → Outcome
  -- the tokens from the first bad one on
  stopped : List Lexeme → Outcome

-- one place is before another one in the text
abbrev pub is_before : Span → Span → Bool
is_before s t = cond (nat_lt s.line t.line) true (cond (s.line == t.line) (nat_lt s.col t.col) false)

-- a limit that is part of the rules is passed
abbrev pub Passes : List Lexeme → Excess → Type 0
Passes = Settles (IsText Counts)

-- an index or a field is one too many, as the tokens before the first bad one settle
abbrev pub Exceeds : List Lexeme → Excess → Type 0
Exceeds = Settles IsChained

abbrev pub Never : (Excess → Type 0) → Type 0
Never P = (e : Excess) → P e → ⊥

-- Of an index or field that is one too many and another limit that is passed, the one comes whose place is
-- earlier, and at one place the index or field.
abbrev pub HasOutcome : List Lexeme → Outcome → Type 0
HasOutcome ls (tree t) = IsText Counts ls t None × Never (Exceeds ls)
HasOutcome ls (passed e) =
    (Passes ls e × ((f : Excess) → Exceeds ls f → is_before e.place f.place ≡ true)) ⊎
    (Exceeds ls e × ((f : Excess) → Passes ls f → is_before f.place e.place ≡ false))
HasOutcome ls (stopped rest) =
    FirstBad (IsText Counts) ls rest × Never (Passes ls) × Never (Exceeds ls) ×
    ((t : Module) (o : Option Excess) → IsText Counts ls t o → ⊥)
