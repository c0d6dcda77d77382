use Rattle.qtt_grammar.proofs.PatternTrees.{bare_got}
use Rattle.qtt_grammar.proofs.pattern.constructor.Goals as goal

pub returns : goal.returns
returns c = bare_got c.args.ahead.now c.in_ok-head.head c.in_ok-head.rest.now c.new.result c.in_ok-head.ensures
    c.new.ensures.items
