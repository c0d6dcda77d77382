use Rattle.std.proofs.Common.{arith}
use Rattle.qtt_lexer.proofs.Slices.{first_and_rest}
use Rattle.qtt_lexer.proofs.Texts.{end_step, closed_step, line_step, plain_step, escaped_from}
use Rattle.qtt_lexer.proofs.quoted.next_step.Goals as goal

pub returns-in_default : goal.returns-in_default
returns-in_default c = end_step c.args.characters.now (omega (arith, c.in_default.len_below))

pub returns-then-first-eq34 : goal.returns-then-first-eq34
returns-then-first-eq34 c =
    closed_step c.args.characters.now _ c.first-item.result
    (first_and_rest c.args.characters.now c.first-item.result c.in-len1-up.len_at_least c.first-item.is)
    c.if-first-eq34.true

pub returns-then-first-eq10 : goal.returns-then-first-eq10
returns-then-first-eq10 c =
    line_step c.args.characters.now _ c.first-item.result
    (first_and_rest c.args.characters.now c.first-item.result c.in-len1-up.len_at_least c.first-item.is)
    c.if-first-eq10.true

pub returns : goal.returns
returns c =
    plain_step c.args.characters.now _ c.first-item.result
    (first_and_rest c.args.characters.now c.first-item.result c.in-len1-up.len_at_least c.first-item.is)
    c.if-first-eq34.false c.if-first-eq10.false c.if-first-eq92.false

pub returns-then-first-eq92 : goal.returns-then-first-eq92
returns-then-first-eq92 c =
    escaped_from c.args.characters.now _ c.first-item.result c.escaped.result
    (first_and_rest c.args.characters.now c.first-item.result c.in-len1-up.len_at_least c.first-item.is)
    c.if-first-eq92.true c.escaped.ensures
