use Rattle.std.proofs.Common.{ℕ, take, ap, sym, ◌∙◌, arith}
use Rattle.std.proofs.Math.Seq.{take-length}
use Rattle.std.proofs.lemmas.Bool.Decides.{nat_tests}
use Rattle.std.proofs.lemmas.Str.{utf8_valid_len-IsUtf8}
use Rattle.qtt_lexer.proofs.tokens.front_text.Goals as goal

pub returns-in-Ok-clause-text : goal.returns-in-Ok-clause-text
returns-in-Ok-clause-text c =
    let bytes = c.args.bytes.now in
    c.in-Ok.ensures.cases.0
    ∙ sym (ap (λ (n : ℕ). take n bytes) (utf8_valid_len-IsUtf8 bytes c.in-Ok.ensures.cases.1) ∙ take-length bytes)

pub returns-in-Ok-clause-broken : goal.returns-in-Ok-clause-broken
returns-in-Ok-clause-broken c =
    let whole = utf8_valid_len-IsUtf8 c.args.bytes.now c.in-Ok.ensures.cases.1 in
    grind (arith, nat_tests)
