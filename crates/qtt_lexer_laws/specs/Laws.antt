-- Laws of tokens and faults.
use Rattle.std.specs.Prelude.{◌≡◌, ◌↔◌, ℕ, ◌⊎◌, List, Result, Ok, Err, Vec}
use Rattle.std.specs.Global.{Global}
use Rattle.qtt_lexer.specs.Forms.{IsText}
use Rattle.qtt_lexer.specs.Lexed.{Mistake, lexed, seen, Gives}
use Rattle.qtt_lexer.specs.declared.errors.LexError.{LexError}
use Rattle.qtt_lexer.specs.declared.errors.LexError.TheVariants as errors
use Rattle.qtt_lexer.specs.declared.token.Token.{Token}
use Rattle.qtt_lexer_laws.specs.Cuts.{HasTokens}
use Rattle.qtt_lexer_laws.specs.Flaws.{FirstFault}

-- the answer's tokens are those of the text, and its fault is the first one, unless memory ran out
abbrev pub Tells : List ℕ → Result (Vec Token Global) LexError → Type 0
Tells bytes (Ok tokens) = HasTokens bytes tokens.items
Tells bytes (Err errors.Memory) = Unit {0}
Tells bytes (Err (errors.Fault fault)) = FirstFault bytes (seen fault)

-- Bytes have one list of tokens or one first fault, and never both.
pub record TextsAreCutOrFaulty : Type 0 where
  pub either : (bytes : List ℕ) → ((ts : List Token) × HasTokens bytes ts) ⊎ ((m : Mistake) × FirstFault bytes m)
  pub not_both : (bytes : List ℕ) (ts : List Token) (m : Mistake) → HasTokens bytes ts → FirstFault bytes m → ⊥
  pub one_list : (bytes : List ℕ) (ts us : List Token) → HasTokens bytes ts → HasTokens bytes us → ts ≡ us
  pub one_fault : (bytes : List ℕ) (m n : Mistake) → FirstFault bytes m → FirstFault bytes n → m ≡ n
  -- bytes with tokens are a text, as the contract of `lex` says it
  pub text : (bytes : List ℕ) (ts : List Token) → HasTokens bytes ts → IsText bytes ts

-- Lexing answers them.
pub record LexingTellsThem : Type 0 where
  pub tokens : (bytes : List ℕ) (ts : List Token) → (lexed bytes ≡ Ok ts) ↔ HasTokens bytes ts
  pub fault : (bytes : List ℕ) (m : Mistake) → (lexed bytes ≡ Err m) ↔ FirstFault bytes m
  pub answer : (bytes : List ℕ) (r : Result (Vec Token Global) LexError) → Gives r (lexed bytes) → Tells bytes r
