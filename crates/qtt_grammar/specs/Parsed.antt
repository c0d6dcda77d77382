-- The answer of `parse`.
use Rattle.std.specs.Prelude.{◌≡◌, ℕ, cond, List, [], ◌∷◌, ◌++◌, codes, Result, Ok, Err}
use Rattle.std.specs.List.{list_all}
use Rattle.qtt_base.specs.declared.place.Span.{Span}
use Rattle.qtt_base.specs.Limits.{words_of}
use Rattle.qtt_lexer.specs.Lexed.{Mistake, seen}
use Rattle.qtt_layout.specs.declared.laid.Laid.{Laid}
use Rattle.qtt_syntax.specs.declared.module.ModuleText.{ModuleText}
use Rattle.qtt_syntax.specs.Tree.{Module}
use Rattle.qtt_syntax.specs.View.{module_of}
use Rattle.qtt_phrase.specs.Phrase.{BeginsSome, FirstBad}
use Rattle.qtt_phrase.specs.Reading.{Kind, Read}
use Rattle.qtt_phrase.specs.Reading.Kind.{unexpected, too_deep}
use Rattle.qtt_phrase.specs.Reading.Read.{got, bad, over}
use Rattle.qtt_grammar.specs.declared.class.Pass.TheVariants.{Counts}
use Rattle.qtt_grammar.specs.declared.errors.GrammarError.{GrammarError}
use Rattle.qtt_grammar.specs.declared.errors.GrammarError.TheVariants as errors
use Rattle.qtt_grammar.specs.declared.lexeme.Lexeme.{Lexeme}
use Rattle.qtt_grammar.specs.declared.stop.Excess.{Excess}
use Rattle.qtt_grammar.specs.Classes.{is_close}
use Rattle.qtt_grammar.specs.Grammar.{Says, of, levels, IsModule, IsText}
use Rattle.qtt_grammar.specs.Lexeme.{lexemes}
use Rattle.qtt_grammar.specs.Outcome.{Passes, Exceeds, Never, HasOutcome}
use Rattle.qtt_grammar.specs.Outcome.Outcome.{passed}
use Rattle.qtt_grammar.specs.Joined.{read_whole}

-- where the first of them stands; with none left, the start of the text
abbrev pub place_of_first : List Lexeme → Span
place_of_first [] = record { line = 1; col = 1; len = 0 }
place_of_first (x ∷ ls) = x.place

abbrev pub word_of_first : List Lexeme → List ℕ
word_of_first [] = []
word_of_first (x ∷ ls) = x.found

-- the last Close marks of a text are its end
abbrev pub found_word : List Lexeme → List ℕ
found_word ls = cond (list_all (of is_close) ls) (codes "end") (word_of_first ls)

-- the first of these is bad
abbrev pub bad_token : Kind → List Lexeme → Mistake
bad_token unexpected ls = record { kind = 8; span = place_of_first ls; word = found_word ls; count = 0 }
bad_token too_deep ls = record { kind = 9; span = place_of_first ls; word = []; count = 0 }

-- a quantity is above its limit
abbrev pub above : Excess → Mistake
above e = record { kind = 31; span = e.place; word = words_of e.quantity; count = e.count }

-- a text's tokens are all read
abbrev pub whole : Read Lexeme Excess Module → Result Module Mistake
whole (got t []) = Ok t
whole (got t (x ∷ ls)) = Err (bad_token unexpected (x ∷ ls))
whole (bad kind ls) = Err (bad_token kind ls)
whole (over e ls) = Err (above e)

-- the tree of tokens with marks, or their first fault
abbrev pub parsed : List Laid → Result Module Mistake
parsed laid = whole (read_whole (lexemes laid))

-- the error is want of memory, or keeps this fault
abbrev pub Refuses : GrammarError → Result Module Mistake → Type 0
Refuses errors.Memory outcome = Unit {0}
Refuses (errors.Fault fault) outcome = outcome ≡ Err (seen fault)

-- the answer is exactly this tree or this fault, unless memory ran out
abbrev pub Gives : Result ModuleText GrammarError → Result Module Mistake → Type 0
Gives (Ok text) outcome = outcome ≡ Ok (module_of text)
Gives (Err e) outcome = Refuses e outcome

-- texts in which one more nesting level may open
unfoldable pub IsDeeperText : Says Module
IsDeeperText = IsModule Counts (levels Counts 201) (levels Counts 200)

-- Why the first token behind a front is bad: it opens one level too many where some text goes on with it if one
-- more level may open.
abbrev pub HasKind : Kind → List Lexeme → List Lexeme → Type 0
HasKind too_deep front rest =
    (x : Lexeme) × (r : List Lexeme) × (rest ≡ x ∷ r) × BeginsSome IsDeeperText (front ++ x ∷ [])
HasKind unexpected front rest =
    (x : Lexeme) (r : List Lexeme) → rest ≡ x ∷ r → BeginsSome IsDeeperText (front ++ x ∷ []) → ⊥

-- no limit is passed before any bad token
abbrev pub IsWithin : List Lexeme → Type 0
IsWithin ls = Never (Passes ls) × Never (Exceeds ls)

-- Why lexemes are refused: a limit that is passed first, or the first bad one.
pub data IsFault (ls : List Lexeme) (m : Mistake) : Type 0 where
  passes_limit : (e : Excess) → HasOutcome ls (passed e) → m ≡ above e → IsFault ls m
  has_bad_token : (kind : Kind) (rest : List Lexeme) (d : FirstBad (IsText Counts) ls rest) →
      HasKind kind d.front rest → IsWithin ls → m ≡ bad_token kind rest → IsFault ls m

-- the error is want of memory, or keeps a fault of these
abbrev pub KeepsFault : List Lexeme → GrammarError → Type 0
KeepsFault ls errors.Memory = Unit {0}
KeepsFault ls (errors.Fault fault) = IsFault ls (seen fault)
