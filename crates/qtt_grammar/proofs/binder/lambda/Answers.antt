use Rattle.qtt_grammar.proofs.Lambdas.{lambda_got}
use Rattle.qtt_grammar.proofs.binder.lambda.Goals as goal

pub returns : goal.returns
returns g c = lambda_got c.args.level.pass c.args.level.left c.args.tail c.args.ahead.now c.in_ok-span.span
    c.in_ok-span.rest.now c.in_ok-binders.binders c.in_ok-binders.rest.now c.in_ok-rest.field-0-0
    c.in_ok-rest.rest.now c.in_ok-body.body c.in_ok-new.field-0 c.in_ok-body.rest.now c.in_ok-span.ensures.gives
    c.in_ok-binders.ensures c.in_ok-rest.ensures c.in_ok-body.ensures c.in_ok-new.ensures.ok
