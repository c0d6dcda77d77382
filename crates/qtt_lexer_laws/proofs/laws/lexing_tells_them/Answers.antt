use Rattle.std.proofs.Common.{List, Result, Ok, Err, Vec}
use Rattle.std.specs.Prelude.{ℕ}
use Rattle.std.specs.Global.{Global}
use Rattle.qtt_lexer.specs.Lexed.{Gives, lexed, seen}
use Rattle.qtt_lexer.specs.declared.errors.LexError.{LexError}
use Rattle.qtt_lexer.specs.declared.errors.LexError.TheVariants as errors
use Rattle.qtt_lexer.specs.declared.token.Token.{Token}
use Rattle.qtt_lexer_laws.specs.Laws.{Tells}
use Rattle.qtt_lexer_laws.proofs.Texts.{tokens_stand, tokens_are_read, fault_stands, fault_is_read}
use Rattle.qtt_lexer_laws.proofs.laws.lexing_tells_them.Goals as goal

told : (bytes : List ℕ) (r : Result (Vec Token Global) LexError) → Gives r (lexed bytes) → Tells bytes r
told bytes (Ok tokens) h = tokens_stand bytes tokens.items h
told bytes (Err errors.Memory) h = tt
told bytes (Err (errors.Fault fault)) h = fault_stands bytes (seen fault) h

pub returns : goal.returns
returns c = record {
  tokens = λ bytes ts. (tokens_stand bytes ts, tokens_are_read bytes ts);
  fault = λ bytes m. (fault_stands bytes m, fault_is_read bytes m);
  answer = told;
}
