use Rattle.std.proofs.Common.{arith}
use Rattle.qtt_lexer.proofs.Slices.{first_and_rest}
use Rattle.qtt_lexer.proofs.Texts.{lone_step, cut_step, escape_step, bad_step}
use Rattle.qtt_lexer.proofs.quoted.escaped.Goals as goal

pub returns-in_default : goal.returns-in_default
returns-in_default c = lone_step c.args.behind.now (omega (arith, c.in_default.len_below))

pub returns-then-next-eq10 : goal.returns-then-next-eq10
returns-then-next-eq10 c =
    cut_step c.args.behind.now _ c.next-item.result
    (first_and_rest c.args.behind.now c.next-item.result c.in-len1-up.len_at_least c.next-item.is)
    c.if-next-eq10.true

pub returns-in-Some : goal.returns-in-Some
returns-in-Some c =
    escape_step c.args.behind.now _ c.next-item.result c.in-Some.character
    (first_and_rest c.args.behind.now c.next-item.result c.in-len1-up.len_at_least c.next-item.is)
    c.if-next-eq10.false c.in-Some.ensures

pub returns-in-None : goal.returns-in-None
returns-in-None c = (
  omega arith,
  bad_step c.args.behind.now _ c.next-item.result
      (first_and_rest c.args.behind.now c.next-item.result c.in-len1-up.len_at_least c.next-item.is)
      c.if-next-eq10.false c.in-None.ensures,
)
