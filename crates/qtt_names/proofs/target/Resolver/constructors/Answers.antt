-- The constructor that stops the others.
use Rattle.std.proofs.Common.{arith}
use Rattle.qtt_syntax.specs.View.{con_of}
use Rattle.qtt_names.specs.Resolved.{behind_con, filled_con}
use Rattle.qtt_names.specs.View.{scope, names_of}
use Rattle.qtt_names.proofs.Steps.{in_turn-at, steps}
use Rattle.qtt_names.proofs.target.Resolver.constructors.Goals as goal

pub returns-in_err-constructor : goal.returns-in_err-constructor
returns-in_err-constructor c =
    let at = in_turn-at (filled_con (scope c.args.self.now.scope.now)
    (names_of c.args.self.now) c.args.locals.now.items) behind_con con_of c.args.first c.args.source.now
    c.loop-constructor.constructor-index c.constructor-item.result c.loop-constructor-test.true
    c.constructor-item.is in
    rw at (grind (arith, steps))
