use Rattle.std.proofs.Common.{length, ap, rules, arith}
use Rattle.std.proofs.lemmas.Str.{chars_from_encodes, encodes-chars, length-le-encodes}
use Rattle.std.specs.Str.{chars}
use Rattle.qtt_lexer.proofs.tokens.characters_of.Goals as goal

pub returns-clause-value : goal.returns-clause-value
returns-clause-value c = search (rules, chars_from_encodes)

pub returns-clause-few : goal.returns-clause-few
returns-clause-few c =
    let text = c.args.text.now in
    omega (
      arith,
      ap length (returns-clause-value c),
      length-le-encodes (chars text),
      ap length (encodes-chars text c.utf8.text),
    )
