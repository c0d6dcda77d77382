-- What tokens are, read as a module text.
use Rattle.std.specs.Prelude.{List, Option, None}
use Rattle.qtt_phrase.specs.Phrase.{FirstBad, Settles}
use Rattle.qtt_syntax.specs.Tree.{Module}
use Rattle.qtt_grammar.specs.declared.class.Pass.{Pass}
use Rattle.qtt_grammar.specs.declared.stop.Excess.{Excess}
use Rattle.qtt_grammar.specs.declared.lexeme.Lexeme.{Lexeme}
use Rattle.qtt_grammar.specs.Grammar.{IsText}

-- One of three, each of which excludes the others.
pub data HasAnswer (pass : Pass) (ls : List Lexeme) : Type 0 where
  -- a text within the limits, which settles none that is passed
  is_text : (t : Module) → IsText pass ls t None → ((e : Excess) → Settles (IsText pass) ls e → ⊥) → HasAnswer pass ls
  -- tokens that begin texts which all pass this limit first
  is_excess : (e : Excess) → Settles (IsText pass) ls e → ((t : Module) → IsText pass ls t None → ⊥) → HasAnswer pass ls
  -- tokens of which one is the first bad one, or that end too soon, before any limit is passed
  is_bad : (rest : List Lexeme) → FirstBad (IsText pass) ls rest →
      ((e : Excess) → Settles (IsText pass) ls e → ⊥) →
      ((t : Module) (o : Option Excess) → IsText pass ls t o → ⊥) → HasAnswer pass ls
