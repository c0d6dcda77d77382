use Rattle.std.proofs.Common.{arith, ◌∙◌}
use Rattle.qtt_lexer.proofs.Slices.{first_and_rest}
use Rattle.qtt_lexer.proofs.Symbols.{symbol_at-empty, symbol_at-one, symbol_at-two}
use Rattle.qtt_lexer.proofs.symbol.symbol_at.Goals as goal

pub returns-in_default : goal.returns-in_default
returns-in_default c = symbol_at-empty c.args.characters.now (omega (arith, c.in_default.len_below))

pub returns-in_default-behind : goal.returns-in_default-behind
returns-in_default-behind c =
    let is = first_and_rest c.args.characters.now c.first-item.result c.in-len1-up.len_at_least c.first-item.is in
    c.of_one.ensures ∙ symbol_at-one _ _ _ is (omega (arith, c.in_default-behind.len_below))

pub returns : goal.returns
returns c =
    let is = first_and_rest c.args.characters.now c.first-item.result c.in-len1-up.len_at_least c.first-item.is in
    let behind_is = first_and_rest _ c.second-item.result c.in-len1-up-behind.len_at_least c.second-item.is in
    c.of_two.ensures ∙ symbol_at-two _ _ _ _ _ is behind_is
