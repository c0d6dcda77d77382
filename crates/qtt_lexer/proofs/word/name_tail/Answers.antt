use Rattle.std.proofs.Common.{arith}
use Rattle.qtt_lexer.proofs.Words.{tail_stops, tail_goes_on, tail_end}
use Rattle.qtt_lexer.proofs.word.name_tail.Goals as goal

pub returns-then-not-goes_on-clause-value : goal.returns-then-not-goes_on-clause-value
returns-then-not-goes_on-clause-value c =
    omega (
      arith,
      c.loop-i.invariant,
      tail_stops c.args.characters.now c.loop-i.i c.index-characters-i.result
          c.loop-i-test.true c.index-characters-i.is c.if-not-goes_on.ensures,
    )

pub loop-i-preserved : goal.loop-i-preserved
loop-i-preserved c =
    omega (
      arith,
      c.loop-i.invariant,
      tail_goes_on c.args.characters.now c.loop-i.i c.index-characters-i.result
          c.loop-i-test.true c.index-characters-i.is c.if-not-goes_on.ensures,
    )

pub returns-clause-value : goal.returns-clause-value
returns-clause-value c = omega
    (arith, c.loop-i.invariant, tail_end c.args.characters.now c.loop-i.i c.loop-i-test.false)
