-- What is kept of the faults of reading, stage by stage.
use Rattle.std.specs.Prelude.{◌≡◌, ℕ, List, Ok, Err}
use Rattle.std.specs.Option.{IsSome}
use Rattle.qtt_lexer.specs.Lexed.{Mistake, lexed}
use Rattle.qtt_lexer.specs.declared.token.Token.{Token}
use Rattle.qtt_layout.specs.Laws.{tokens_in, kept}
use Rattle.qtt_layout.specs.Rules.{laid}
use Rattle.qtt_layout.specs.declared.laid.Laid.{Laid}
use Rattle.qtt_syntax.specs.Tree.{Module}
use Rattle.qtt_grammar.specs.Parsed.{parsed}
use Rattle.qtt_names.specs.Answer as names
use Rattle.qtt_names.specs.Resolved.{resolved}
use Rattle.qtt_names.specs.Scope.{Scope}
use Rattle.qtt_diag.specs.Fault.{fault_detail}

-- a refusal keeps something of a fault of this kind, word and count
abbrev pub IsKept : ℕ → List ℕ → ℕ → Type 0
IsKept kind word count = IsSome (fault_detail kind word count)

-- Each fault of a stage is kept; one of names where the tree is that of a text's tokens.
pub record FaultsAreKept : Type 0 where
  pub of_lexing : (text : List ℕ) (m : Mistake) → lexed text ≡ Err m → IsKept m.kind m.word m.count
  pub of_layout : (ts : List Token) (m : Mistake) → laid ts ≡ Err m → IsKept m.kind m.word m.count
  pub of_grammar : (ms : List Laid) (m : Mistake) → parsed ms ≡ Err m → IsKept m.kind m.word m.count
  pub of_names : (text : List ℕ) (ts : List Token) (ms : List Laid) (t : Module) (s : Scope) (m : names.Mistake) →
      lexed text ≡ Ok ts → tokens_in ms ≡ kept ts → parsed ms ≡ Ok t → resolved s t ≡ Err m →
      IsKept m.kind m.word m.count
