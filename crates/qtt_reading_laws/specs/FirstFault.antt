-- The tree of tokens with their marks, or their first fault, as the grammar's relation has them.
use Rattle.std.specs.Prelude.{◌≡◌, ◌↔◌, List, [], ◌∷◌, Option, None, Ok, Err}
use Rattle.qtt_base.specs.Limits.{words_of}
use Rattle.qtt_lexer.specs.Lexed.{Mistake}
use Rattle.qtt_layout.specs.declared.laid.Laid.{Laid}
use Rattle.qtt_syntax.specs.Tree.{Module}
use Rattle.qtt_phrase.specs.Phrase.{FirstBad}
use Rattle.qtt_phrase.specs.Reading.{Kind}
use Rattle.qtt_phrase.specs.Reading.Kind.{unexpected, too_deep}
use Rattle.qtt_grammar.specs.declared.class.Pass.TheVariants.{Counts}
use Rattle.qtt_grammar.specs.declared.lexeme.Lexeme.{Lexeme}
use Rattle.qtt_grammar.specs.declared.stop.Excess.{Excess}
use Rattle.qtt_grammar.specs.Grammar.{IsText}
use Rattle.qtt_grammar.specs.Lexeme.{lexemes}
use Rattle.qtt_grammar.specs.Outcome.{Passes, Exceeds, Never, HasOutcome}
use Rattle.qtt_grammar.specs.Outcome.Outcome.{passed}
use Rattle.qtt_grammar.specs.Parsed.{place_of_first, found_word, HasKind, parsed}

-- the tokens are a module's text with this tree, within every limit
pub record IsTreeOf (ls : List Lexeme) (t : Module) : Type 0 where
  -- the grammar has the tree of them, and no limit of its rules is passed
  pub text : IsText Counts ls t None
  -- no index or field is one too many
  pub within : Never (Exceeds ls)

-- The rest begins with the first bad token: some text begins with the tokens before it, and none with it too.
pub record IsFirstBad (kind : Kind) (ls rest : List Lexeme) : Type 0 where
  pub bad : FirstBad (IsText Counts) ls rest
  -- it is too deep where some text goes on with it if one more level may open, and else unexpected
  pub why : HasKind kind bad.front rest
  -- no limit is passed before it
  pub none_passed : Never (Passes ls)
  pub none_exceeds : Never (Exceeds ls)
  -- the tokens are no text
  pub no_text : (t : Module) (o : Option Excess) → IsText Counts ls t o → ⊥

-- What is told of tokens that are no text: the limit that they pass first, or else their first bad token.
pub data IsFirstFault (ls : List Lexeme) (m : Mistake) : Type 0 where
  -- kind 31, at what is above the limit, with the quantity's words and the count
  limit : (e : Excess) → HasOutcome ls (passed e) →
      m ≡ record { kind = 31; span = e.place; word = words_of e.quantity; count = e.count } → IsFirstFault ls m
  -- kind 8, at the token, with the found word
  unexpected_token : (rest : List Lexeme) → IsFirstBad unexpected ls rest →
      m ≡ record { kind = 8; span = place_of_first rest; word = found_word rest; count = 0 } → IsFirstFault ls m
  -- kind 9, at the token that opens a level too many
  deep_token : (x : Lexeme) (rest : List Lexeme) → IsFirstBad too_deep ls (x ∷ rest) →
      m ≡ record { kind = 9; span = x.place; word = []; count = 0 } → IsFirstFault ls m

-- one tree and no fault, or no tree and one fault
pub data HasOneAnswer (ls : List Lexeme) : Type 0 where
  one_tree : (t : Module) → IsTreeOf ls t → ((u : Module) → IsTreeOf ls u → u ≡ t) →
      ((m : Mistake) → IsFirstFault ls m → ⊥) → HasOneAnswer ls
  one_fault : (m : Mistake) → IsFirstFault ls m → ((n : Mistake) → IsFirstFault ls n → n ≡ m) →
      ((t : Module) → IsTreeOf ls t → ⊥) → HasOneAnswer ls

-- `parsed` answers what the grammar's relation has, and the relation has one answer.
pub record ParsedIsTheGrammar : Type 0 where
  pub tree : (ms : List Laid) (t : Module) → (parsed ms ≡ Ok t) ↔ IsTreeOf (lexemes ms) t
  pub fault : (ms : List Laid) (m : Mistake) → (parsed ms ≡ Err m) ↔ IsFirstFault (lexemes ms) m
  pub one : (ls : List Lexeme) → HasOneAnswer ls
