use Rattle.qtt_grammar.proofs.Statements.{do_got}
use Rattle.qtt_grammar.proofs.lines.doing.Goals as goal

pub returns : goal.returns
returns g c = do_got c.args.level.pass c.args.level.left c.args.tail c.args.ahead.now c.in_ok-span.span
    c.in_ok-span.rest.now c.in_ok-rest.field-0-0 c.in_ok-rest.rest.now c.in_ok-statements.statements
    c.in_ok-statements.rest.now c.in_ok-rest-2.field-0-0 c.in_ok-rest-2.rest.now c.in_ok-span.ensures.gives
    c.in_ok-rest.ensures c.in_ok-statements.ensures c.in_ok-rest-2.ensures
