-- The parameter that stops the others.
use Rattle.std.proofs.Common.{arith}
use Rattle.qtt_syntax.specs.View.{param_of}
use Rattle.qtt_names.specs.Resolved.{behind_param, filled_param}
use Rattle.qtt_names.specs.View.{names_of}
use Rattle.qtt_names.proofs.Steps.{in_turn-at, steps}
use Rattle.qtt_names.proofs.target.Resolver.params.Goals as goal

pub returns-in_err-param-clause-gives : goal.returns-in_err-param-clause-gives
returns-in_err-param-clause-gives c =
    let at = in_turn-at (filled_param (names_of c.args.self.now)) behind_param param_of c.args.locals.now.items
    c.args.source.now c.loop-param.param-index c.param-item.result c.loop-param-test.true c.param-item.is in
    rw at (grind (arith, steps))
