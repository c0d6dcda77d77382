-- What is printed is read again.
use Rattle.std.specs.Prelude.{◌≡◌, ℕ, List, Ok}
use Rattle.qtt_lexer.specs.Lexed.{lexed}
use Rattle.qtt_lexer.specs.declared.token.Token.{Token}
use Rattle.qtt_layout.specs.Rules.{laid}
use Rattle.qtt_layout.specs.declared.laid.Laid.{Laid}
use Rattle.qtt_syntax.specs.Printing.{printed}
use Rattle.qtt_syntax.specs.Tree.{Module}
use Rattle.qtt_grammar.specs.Parsed.{parsed}
use Rattle.qtt_reprint.specs.Unplaced.{bare_module}

-- The printed text of a tree is lexed, laid out and parsed, as the same tree but for places, which prints alike.
pub record IsParsedAgain (t : Module) : Type 0 where
  pub tokens : List Token
  pub are_lexed : lexed (printed t) ≡ Ok tokens
  pub marks : List Laid
  pub are_laid : laid tokens ≡ Ok marks
  pub tree : Module
  pub is_parsed : parsed marks ≡ Ok tree
  pub same : bare_module tree ≡ bare_module t
  pub prints_alike : printed tree ≡ printed t

-- so it is with each tree that was read from a text
abbrev pub PrintedTextsAreParsed : Type 0
PrintedTextsAreParsed = (text : List ℕ) (ts : List Token) (ms : List Laid) (t : Module) →
    lexed text ≡ Ok ts → laid ts ≡ Ok ms → parsed ms ≡ Ok t → IsParsedAgain t
