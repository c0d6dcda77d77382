use Rattle.std.proofs.Common.{length, ap, arith}
use Rattle.std.proofs.lemmas.List.{length-take}
use Rattle.std.specs.Str.Lossy.{utf8_valid_len}
use Rattle.qtt_lexer.specs.Lexed.{lexed}
use Rattle.qtt_lexer.proofs.Cutting.{text_of_answer, place_of_answer}
use Rattle.qtt_lexer.proofs.tokens.lex.Goals as goal

pub lex_characters-requires : goal.lex_characters-requires
lex_characters-requires c =
    let bytes = c.args.bytes.now in
    omega (
      arith,
      c.without_mark.ensures.few,
      ap length c.as_slice.ensures.value,
      c.in_ok-characters.ensures.few,
      ap length c.front_text-broken.ensures.text,
      length-take (utf8_valid_len bytes) bytes,
    )

pub returns-clause-exact : goal.returns-clause-exact
unfolding lexed
returns-clause-exact c =
    rw (
      ← c.front_text-broken.ensures.text,
      ← c.front_text-broken.ensures.broken,
      ← c.in_ok-characters.ensures.value,
      ← c.as_slice.ensures.value,
      ← c.without_mark.ensures.value,
    )
    c.lex_characters.ensures

pub returns-clause-text : goal.returns-clause-text
returns-clause-text c = text_of_answer c.args.bytes.now c.lex_characters.result (returns-clause-exact c)

pub returns-clause-place : goal.returns-clause-place
returns-clause-place c = place_of_answer c.args.bytes.now c.lex_characters.result (returns-clause-exact c)
